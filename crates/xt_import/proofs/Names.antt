-- Names among others, and what is left of them without one.
use Rattle.std.proofs.Common.{◌≡◌, ◌||◌, ◌<◌, ◌≤◌, ℕ, Bool, true, false, if◌then◌else◌, List, [], ◌∷◌, length, bytes_eq, refl, sym, ap, ◌∙◌, arith}
use Rattle.spec_structure.specs.Modules.{is_among}
use Rattle.xt_import.proofs.Keys.{equal, is_equal}

pub not_equal : (a b : List ℕ) → ¬ (a ≡ b) → bytes_eq a b ≡ false
not_equal a b n = by (bytes_eq a b) refl
  where
    by : (e : Bool) → bytes_eq a b ≡ e → bytes_eq a b ≡ false
    by true h = absurd (n (equal a b h))
    by false h = h

abbrev pub without : List ℕ → List (List ℕ) → List (List ℕ)
without name [] = []
without name (n ∷ ns) = if bytes_eq name n then without name ns else n ∷ without name ns

none_longer : (name : List ℕ) (ns : List (List ℕ)) → length (without name ns) ≤ length ns
none_longer name [] = omega (arith)
none_longer name (n ∷ ns) = by (bytes_eq name n) (none_longer name ns)
  where
    by : (e : Bool) → length (without name ns) ≤ length ns → length (if e then without name ns else n ∷ without name ns) ≤ length (n ∷ ns)
    by true h = omega (arith, h)
    by false h = omega (arith, h)

pub shorter : (name : List ℕ) (ns : List (List ℕ)) → is_among name ns ≡ true → length (without name ns) < length ns
shorter name [] h = absurd (cc)
shorter name (n ∷ ns) h = by (bytes_eq name n) h (none_longer name ns) (λ e. shorter name ns e)
  where
    by : (e : Bool) → (e || is_among name ns) ≡ true → length (without name ns) ≤ length ns → (is_among name ns ≡ true → length (without name ns) < length ns)
        → length (if e then without name ns else n ∷ without name ns) < length (n ∷ ns)
    by true h l more = omega (arith, l)
    by false h l more = let m = more h in omega (arith, m)

pub left_among : (x name : List ℕ) (ns : List (List ℕ)) → is_among x ns ≡ true → bytes_eq name x ≡ false → is_among x (without name ns) ≡ true
left_among x name [] h d = absurd (cc)
left_among x name (n ∷ ns) h d = by (bytes_eq name n) (bytes_eq x n) refl refl h (λ e. left_among x name ns e d)
  where
    by : (same here : Bool) → bytes_eq name n ≡ same → bytes_eq x n ≡ here → (here || is_among x ns) ≡ true
        → (is_among x ns ≡ true → is_among x (without name ns) ≡ true)
        → is_among x (if same then without name ns else n ∷ without name ns) ≡ true
    by true true s e h more = let t : bytes_eq name x ≡ true = is_equal name x (equal name n s ∙ sym (equal x n e)) in absurd (cc)
    by true false s e h more = more h
    by false true s e h more = ap (λ (b : Bool). b || is_among x (without name ns)) e
    by false false s e h more = ap (λ (b : Bool). b || is_among x (without name ns)) e ∙ more h
