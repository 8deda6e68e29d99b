-- Names among others, and what is left of them without one.
use Rattle.std.proofs.Common.{◌≡◌, ◌||◌, ◌<◌, ◌≤◌, ℕ, Bool, true, false, if◌then◌else◌, List, [], ◌∷◌, ◌++◌, length, bytes_eq, refl, sym, ap, subst, ◌∙◌, arith}
use Rattle.std.proofs.lemmas.List.Folds.{list_any-append}
use Rattle.std.proofs.lemmas.Slice.Eq.{bytes_eq-Decides}
use Rattle.spec_structure.specs.Modules.{is_among}

pub split : (P : Type 0) (b : Bool) → (b ≡ true → P) → (b ≡ false → P) → P
split P true f g = f refl
split P false f g = g refl

equal : (a b : List ℕ) → bytes_eq a b ≡ true → a ≡ b
equal a b e = (bytes_eq-Decides a b).0 e

pub is_equal : (a b : List ℕ) → a ≡ b → bytes_eq a b ≡ true
is_equal a b e = (bytes_eq-Decides a b).1 e

pub not_equal : (a b : List ℕ) → ¬ (a ≡ b) → bytes_eq a b ≡ false
not_equal a b n = by (bytes_eq a b) refl
  where
    by : (e : Bool) → bytes_eq a b ≡ e → bytes_eq a b ≡ false
    by true h = absurd (n (equal a b h))
    by false h = h

-- ---- One more

pub in_front : (P : List ℕ → Type 0) (x name : List ℕ) (names : List (List ℕ)) → is_among x (name ∷ names) ≡ true → P name
    → (is_among x names ≡ true → P x) → P x
in_front P x name names h p more = by (bytes_eq x name) refl
  where
    by : (e : Bool) → bytes_eq x name ≡ e → P x
    by true e = subst P (sym (equal x name e)) p
    by false e = more (sym (ap (λ (b : Bool). b || is_among x names) e) ∙ h)

pub last_is : (x name : List ℕ) (done : List (List ℕ)) → is_among x (done ++ name ∷ []) ≡ true → is_among x done ≡ false → x ≡ name
last_is x name done h f =
    equal x name (by (is_among x done) (bytes_eq x name) (sym (list_any-append (bytes_eq x) done (name ∷ [])) ∙ h) f)
  where
    by : (a b : Bool) → (a || (b || false)) ≡ true → a ≡ false → b ≡ true
    by true b h f = absurd (cc)
    by false true h f = refl
    by false false h f = absurd (cc)

pub kept : (x name : List ℕ) (done : List (List ℕ)) → is_among x done ≡ true → is_among x (done ++ name ∷ []) ≡ true
kept x name done h = list_any-append (bytes_eq x) done (name ∷ []) ∙ ap (λ (b : Bool). b || is_among x (name ∷ [])) h

pub added : (name : List ℕ) (done : List (List ℕ)) → is_among name (done ++ name ∷ []) ≡ true
added name done =
    list_any-append (bytes_eq name) done (name ∷ []) ∙ ap (λ (b : Bool). is_among name done || (b || false)) (is_equal name name refl)
    ∙ or_true (is_among name done)
  where
    or_true : (a : Bool) → (a || true) ≡ true
    or_true true = refl
    or_true false = refl

-- what is not among some is not among fewer
pub among_fewer : (a b : Bool) → (a ≡ true → b ≡ true) → b ≡ false → a ≡ false
among_fewer true b f g = let e = f refl in absurd (cc)
among_fewer false b f g = refl

-- ---- One less

abbrev pub without : List ℕ → List (List ℕ) → List (List ℕ)
without name [] = []
without name (n ∷ ns) = if bytes_eq name n then without name ns else n ∷ without name ns

none_longer : (name : List ℕ) (ns : List (List ℕ)) → length (without name ns) ≤ length ns
none_longer name [] = omega (arith)
none_longer name (n ∷ ns) = by (bytes_eq name n) (none_longer name ns)
  where
    by : (e : Bool) → length (without name ns) ≤ length ns → length (if e then without name ns else n ∷ without name ns) ≤ length (n ∷ ns)
    by true h = omega (arith, h)
    by false h = omega (arith, h)

pub shorter : (name : List ℕ) (ns : List (List ℕ)) → is_among name ns ≡ true → length (without name ns) < length ns
shorter name [] h = absurd (cc)
shorter name (n ∷ ns) h = by (bytes_eq name n) h (none_longer name ns) (λ e. shorter name ns e)
  where
    by : (e : Bool) → (e || is_among name ns) ≡ true → length (without name ns) ≤ length ns → (is_among name ns ≡ true → length (without name ns) < length ns)
        → length (if e then without name ns else n ∷ without name ns) < length (n ∷ ns)
    by true h l more = omega (arith, l)
    by false h l more = let m = more h in omega (arith, m)

pub left_among : (x name : List ℕ) (ns : List (List ℕ)) → is_among x ns ≡ true → bytes_eq name x ≡ false → is_among x (without name ns) ≡ true
left_among x name [] h d = absurd (cc)
left_among x name (n ∷ ns) h d = by (bytes_eq name n) (bytes_eq x n) refl refl h (λ e. left_among x name ns e d)
  where
    by : (same here : Bool) → bytes_eq name n ≡ same → bytes_eq x n ≡ here → (here || is_among x ns) ≡ true
        → (is_among x ns ≡ true → is_among x (without name ns) ≡ true)
        → is_among x (if same then without name ns else n ∷ without name ns) ≡ true
    by true true s e h more = let t : bytes_eq name x ≡ true = is_equal name x (equal name n s ∙ sym (equal x n e)) in absurd (cc)
    by true false s e h more = more h
    by false true s e h more = ap (λ (b : Bool). b || is_among x (without name ns)) e
    by false false s e h more = ap (λ (b : Bool). b || is_among x (without name ns)) e ∙ more h
