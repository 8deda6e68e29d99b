-- The attributes that are left, after those that were read.
use Rattle.std.proofs.Common.{◌≡◌, ℕ, ◌+◌, ◌<◌, ◌≤◌, List, [], ◌∷◌, ◌++◌, length, drop, get_or, Result, Ok, Err, refl, sym, ap, ◌∙◌, subst}
use Rattle.std.proofs.lemmas.List.{at_drop_all, at_drop_more}
use Rattle.spec_expression.specs.declared.code.StaticCode.{StaticCode}
use Rattle.spec_compile.specs.Reading.{Reading, Done, Reads, reading_then, both}
use Rattle.spec_compile.specs.Value.{Entry, Value}
use Rattle.xt_attributes.specs.Answers.{Continues, reads_then, reads_both}
use Rattle.xt_attributes.specs.Gathering.{appended, appended-appended, appended-none, none-appended, seen}

-- what is left, behind what was read
abbrev pub Rest : {T : Type 0} → Result (List T) StaticCode → Reading (Result (List T) StaticCode) → Reading (Result (List T) StaticCode)
Rest so_far left = reading_then left (λ more. Done (appended so_far more))

pub begins : {T : Type 0} (so_far : Result (List T) StaticCode) (p : Reading (Result (List T) StaticCode)) → so_far ≡ Ok [] → Continues (Rest so_far p) p
begins so_far p e = record {
  so = λ a h.
      let c = reads_both p (λ more. Done (appended so_far more)) a h in
      subst (λ b. Reads p b) (sym (none-appended c.value) ∙ ap (λ s. appended s c.value) (sym e) ∙ c.then_so) c.first;
}

-- one more was read
pub turn : {T : Type 0} (one p q : Reading (Result (List T) StaticCode)) (so_far x now : Result (List T) StaticCode) → Reads one x → now ≡ appended so_far x
    → Continues (Rest so_far (both (λ xs ys. xs ++ ys) one p)) q → Continues (Rest now p) q
turn one p q so_far x now read e c = record {
  so = λ a h.
      let left = reads_both p (λ more. Done (appended now more)) a h in
      let next = reads_then one (λ xs. reading_then p (λ ys. Done (appended xs ys))) x (appended x left.value) read
      (reads_then p (λ ys. Done (appended x ys)) left.value (appended x left.value) left.first refl) in
      c.so a (reads_then (both (λ xs ys. xs ++ ys) one p) (λ more. Done (appended so_far more)) (appended x left.value) a next
      (appended-appended so_far x left.value ∙ ap (λ s. appended s left.value) (sym e) ∙ left.then_so));
}

pub ends : {T : Type 0} {q : Reading (Result (List T) StaticCode)} (so_far : Result (List T) StaticCode) → Continues (Rest so_far (Done (Ok []))) q → Reads q so_far
ends so_far c = c.so so_far (reads_then (Done (Ok [])) (λ more. Done (appended so_far more)) (Ok []) so_far refl (appended-none so_far))

pub next : {T E : Type 0} {q : Reading (Result (List T) StaticCode)} (so_far : Result (List T) StaticCode) (left : List E → Reading (Result (List T) StaticCode)) (xs : List E)
    (i : ℕ) (x : E) → i < length xs → x ≡ get_or xs i x → Continues (Rest so_far (left (drop i xs))) q → Continues (Rest so_far (left (x ∷ drop (i + 1) xs))) q
next {q = q} so_far left xs i x l e c =
    subst (λ p. Continues (Rest so_far p) q) (at_drop_more left xs i x l ∙ ap (λ y. left (y ∷ drop (i + 1) xs)) (sym e)) c

pub last : {T E : Type 0} {q : Reading (Result (List T) StaticCode)} (so_far : Result (List T) StaticCode) (left : List E → Reading (Result (List T) StaticCode)) (xs : List E)
    (i : ℕ) → length xs ≤ i → Continues (Rest so_far (left (drop i xs))) q → Continues (Rest so_far (left [])) q
last {q = q} so_far left xs i l c = subst (λ p. Continues (Rest so_far p) q) (at_drop_all left xs i l) c

pub seen-seen : {A B C R : Type 0} (f : A → B) (g : B → C) (r : Result A R) → seen (λ a. g (f a)) r ≡ seen g (seen f r)
seen-seen f g (Ok a) = refl
seen-seen f g (Err why) = refl

-- a value under its name
abbrev pub under : List ℕ → Value → List Entry → List Entry
under local v rest = record { name = local; value = v } ∷ rest
