-- The attributes of literal result elements: those that are left after those that were read, and what two readings come to.
use Rattle.std.proofs.Common.{◌≡◌, ℕ, ◌+◌, ◌<◌, ◌≤◌, List, [], ◌∷◌, ◌++◌, length, drop, get_or, Option, None, Some, Result, Ok, Err, refl, sym, ap, ◌∙◌, subst}
use Rattle.std.proofs.lemmas.List.{at_drop_all, at_drop_more}
use Rattle.spec_expression.specs.declared.code.StaticCode.{StaticCode}
use Rattle.spec_compile.specs.Reading.{Reading, Done, Reads, after_ok, both, joined, reading_then}
use Rattle.xt_attributes.specs.Answers.{Answers, Continues, Finds, FindsSo, IsRead, ReadsFault, answers_as, answers_refuse, reads_both, reads_then}
use Rattle.xt_attributes.specs.Gathering.{appended, appended-appended, appended-none, none-appended, seen}
use Rattle.xt_attributes.specs.View.{code_in}
use Rattle.xt_attributes.specs.declared.fault.AttributeFault.{AttributeFault}
use Rattle.xt_attributes.specs.declared.fault.AttributeFault.TheVariants as attribute
use Rattle.xt_content.specs.Attribute.{IsHeard, least_with}

-- ---- From an answer to what was read

pub found : {A T E : Type 0} {v : T → A} {p : Reading (Result A StaticCode)} (answer : Result T AttributeFault) (result : Result (Result T StaticCode) E)
    → IsHeard answer result → IsRead code_in v p answer → Finds (seen v) p result
found {T = T} {E = E} {v = v} {p = p} answer result h g = record { so = go answer result h g.so }
  where
    go : (answer : Result T AttributeFault) (result : Result (Result T StaticCode) E) → IsHeard answer result → Answers code_in v p answer → FindsSo (seen v) p result
    go (Ok x) (Ok read) e a = subst (λ (r : Result T StaticCode). Reads p (seen v r)) (sym e) a
    go (Ok x) (Err error) e a = tt
    go (Err attribute.Memory) (Ok read) e a = absurd e
    go (Err attribute.Memory) (Err error) e a = tt
    go (Err (attribute.Refused code)) (Ok read) e a = subst (λ (r : Result T StaticCode). Reads p (seen v r)) (sym e) a
    go (Err (attribute.Refused code)) (Err error) e a = tt

pub on_seen : {A B R : Type 0} (f : A → B) (r : Result A R) → Done (seen f r) ≡ after_ok (λ v. Done (Ok (f v))) r
on_seen f (Ok a) = refl
on_seen f (Err why) = refl

-- ---- What is left, behind what was read

abbrev pub Rest : {T : Type 0} → Result (List T) StaticCode → Reading (Result (List T) StaticCode) → Reading (Result (List T) StaticCode)
Rest so_far left = reading_then left (λ more. Done (appended so_far more))

pub begins : {T : Type 0} (so_far : Result (List T) StaticCode) (p : Reading (Result (List T) StaticCode)) → so_far ≡ Ok [] → Continues (Rest so_far p) p
begins so_far p e = record {
  so = λ a h.
      let c = reads_both p (λ more. Done (appended so_far more)) a h in
      subst (λ b. Reads p b) (sym (none-appended c.value) ∙ ap (λ s. appended s c.value) (sym e) ∙ c.then_so) c.first;
}

-- one more was read
pub turn : {T : Type 0} (one p q : Reading (Result (List T) StaticCode)) (so_far x now : Result (List T) StaticCode) → Reads one x → now ≡ appended so_far x
    → Continues (Rest so_far (both (λ xs ys. xs ++ ys) one p)) q → Continues (Rest now p) q
turn one p q so_far x now read e c = record {
  so = λ a h.
      let left = reads_both p (λ more. Done (appended now more)) a h in
      let next = reads_then one (λ xs. reading_then p (λ ys. Done (appended xs ys))) x (appended x left.value) read
      (reads_then p (λ ys. Done (appended x ys)) left.value (appended x left.value) left.first refl) in
      c.so a (reads_then (both (λ xs ys. xs ++ ys) one p) (λ more. Done (appended so_far more)) (appended x left.value) a next
      (appended-appended so_far x left.value ∙ ap (λ s. appended s left.value) (sym e) ∙ left.then_so));
}

pub ends : {T : Type 0} {q : Reading (Result (List T) StaticCode)} (so_far : Result (List T) StaticCode) → Continues (Rest so_far (Done (Ok []))) q → Reads q so_far
ends so_far c = c.so so_far (reads_then (Done (Ok [])) (λ more. Done (appended so_far more)) (Ok []) so_far refl (appended-none so_far))

pub next : {T E : Type 0} {q : Reading (Result (List T) StaticCode)} (so_far : Result (List T) StaticCode) (left : List E → Reading (Result (List T) StaticCode)) (xs : List E)
    (i : ℕ) (x : E) → i < length xs → x ≡ get_or xs i x → Continues (Rest so_far (left (drop i xs))) q → Continues (Rest so_far (left (x ∷ drop (i + 1) xs))) q
next {q = q} so_far left xs i x l e c =
    subst (λ p. Continues (Rest so_far p) q) (at_drop_more left xs i x l ∙ ap (λ y. left (y ∷ drop (i + 1) xs)) (sym e)) c

pub last : {T E : Type 0} {q : Reading (Result (List T) StaticCode)} (so_far : Result (List T) StaticCode) (left : List E → Reading (Result (List T) StaticCode)) (xs : List E)
    (i : ℕ) → length xs ≤ i → Continues (Rest so_far (left (drop i xs))) q → Continues (Rest so_far (left [])) q
last {q = q} so_far left xs i l c = subst (λ p. Continues (Rest so_far p) q) (at_drop_all left xs i l) c

pub seen-seen : {A B C R : Type 0} (f : A → B) (g : B → C) (r : Result A R) → seen (λ a. g (f a)) r ≡ seen g (seen f r)
seen-seen f g (Ok a) = refl
seen-seen f g (Err why) = refl

-- ---- Two readings, of which the lesser refusal counts

pub refused_first : {A B C : Type 0} (f : A → B → C) (code : StaticCode) (r : Result B StaticCode) → Err (least_with code r) ≡ joined f (Err code) r
refused_first f code (Ok b) = refl
refused_first f code (Err other) = refl

pub refuses_first : {A B C X Y Z : Type 0} (v : X → A) (w : Y → B) {u : Z → C} (f : A → B → C) (one : Result X StaticCode) (other : Result Y StaticCode) (code least : StaticCode)
    → one ≡ Err code → least ≡ least_with code (seen w other) → IsRead code_in u (Done (joined f (seen v one) (seen w other))) (Err (attribute.Refused least))
refuses_first {X = X} v w f one other code least e h =
    answers_as (ap Done (refused_first f code (seen w other)) ∙ ap (λ (x : Result X StaticCode). Done (joined f (seen v x) (seen w other))) (sym e))
    (answers_refuse (ap Some h))

both_read : {A B C : Type 0} (f : A → B → C) (r : Reading (Result A StaticCode)) (s : Reading (Result B StaticCode)) (a : Result A StaticCode) (b : Result B StaticCode) (c : Result C StaticCode)
    → Reads r a → Reads s b → Reads (Done (joined f a b)) c → Reads (both f r s) c
both_read f r s a b c h g e = reads_then r (λ x. reading_then s (λ y. Done (joined f x y))) a c h (reads_then s (λ y. Done (joined f a y)) b c g e)

pub both_answered : {A B C X Y Z E G F : Type 0} {v : X → Result A StaticCode} {w : Y → Result B StaticCode} {u : Z → C} {why : F → Option StaticCode} (f : A → B → C)
    {r : Reading (Result A StaticCode)} {s : Reading (Result B StaticCode)} {x : X} {y : Y} {result : Result Z F}
    → Finds {E = E} v r (Ok x) → Finds {E = G} w s (Ok y) → IsRead why u (Done (joined f (v x) (w y))) result → IsRead why u (both f r s) result
both_answered {C = C} {Z = Z} {F = F} {v = v} {w = w} {u = u} {why = why} f {r = r} {s = s} {x = x} {y = y} {result = result} h g k = record { so = go result k.so }
  where
    refused : (o : Option StaticCode) → ReadsFault (Done (joined f (v x) (w y))) o → ReadsFault (both f r s) o
    refused None e = tt
    refused (Some c) e = both_read f r s (v x) (w y) (Err c) h.so g.so e

    go : (result : Result Z F) → Answers why u (Done (joined f (v x) (w y))) result → Answers why u (both f r s) result
    go (Ok z) e = both_read f r s (v x) (w y) (Ok (u z)) h.so g.so e
    go (Err fault) e = refused (why fault) e
