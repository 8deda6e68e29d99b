-- Keys that rise along the numbers of nodes in document order.
use Rattle.std.proofs.Common.{◌≡◌, ℕ, ◌<◌, ◌≤◌, ◌==◌, true, List, [], ◌∷◌, ◌++◌, refl, sym, ap, ◌∙◌, subst, arith, eq-eqb}
use Rattle.spec_document.specs.Forest as spec
use Rattle.spec_document.specs.Forest.{Forest, labels}
use Rattle.xt_tree.specs.Keys.{last_key, Rises}
use Rattle.xt_tree.proofs.Distinct.{is_among, or_left, or_right}

abbrev pub final : (ℕ → ℕ) → ℕ → List ℕ → ℕ
final key low [] = low
final key low (n ∷ ns) = final key (key n) ns

abbrev pub start : (ℕ → ℕ) → ℕ → List ℕ → ℕ
start key high [] = high
start key high (n ∷ ns) = key n

abbrev pub Sorted : (ℕ → ℕ) → ℕ → List ℕ → Type 0
Sorted key low [] = Unit {0}
Sorted key low (n ∷ ns) = (low < key n) × Sorted key (key n) ns

pub final-append : (key : ℕ → ℕ) (low : ℕ) (xs ys : List ℕ) → final key low (xs ++ ys) ≡ final key (final key low xs) ys
final-append key low [] ys = refl
final-append key low (x ∷ xs) ys = final-append key (key x) xs ys

pub start-append : (key : ℕ → ℕ) (high : ℕ) (xs ys : List ℕ) → start key high (xs ++ ys) ≡ start key (start key high ys) xs
start-append key high [] ys = refl
start-append key high (x ∷ xs) ys = refl

pub sorted-append : (key : ℕ → ℕ) (low : ℕ) (xs ys : List ℕ) → Sorted key low xs → Sorted key (final key low xs) ys → Sorted key low (xs ++ ys)
sorted-append key low [] ys h k = k
sorted-append key low (x ∷ xs) ys h k = (h.0, sorted-append key (key x) xs ys h.1 k)

pub sorted-parts : (key : ℕ → ℕ) (low : ℕ) (xs ys : List ℕ) → Sorted key low (xs ++ ys) → Sorted key low xs × Sorted key (final key low xs) ys
sorted-parts key low [] ys h = (tt, h)
sorted-parts key low (x ∷ xs) ys h = let rest = sorted-parts key (key x) xs ys h.1 in ((h.0, rest.0), rest.1)

pub final-labels : (key : ℕ → ℕ) (low : ℕ) (f : Forest ℕ) → final key low (labels f) ≡ last_key key low f
final-labels key low spec.Empty = refl
final-labels key low (spec.Node l c f g) =
    final-append key (key l) (labels f) (labels g) ∙ ap (λ k. final key k (labels g)) (final-labels key (key l) f)
    ∙ final-labels key (last_key key (key l) f) g

pub sorted-labels : (key : ℕ → ℕ) (low : ℕ) (f : Forest ℕ) → Rises key low f → Sorted key low (labels f)
sorted-labels key low spec.Empty h = tt
sorted-labels key low (spec.Node l c f g) h = (
  h.0,
  sorted-append key (key l) (labels f) (labels g) (sorted-labels key (key l) f h.1)
      (subst (λ k. Sorted key k (labels g)) (sym (final-labels key (key l) f)) (sorted-labels key (last_key key (key l) f) g h.2)),
)

pub labels-rise : (key : ℕ → ℕ) (low : ℕ) (f : Forest ℕ) → Sorted key low (labels f) → Rises key low f
labels-rise key low spec.Empty h = tt
labels-rise key low (spec.Node l c f g) h =
    let both = sorted-parts key (key l) (labels f) (labels g) h.1 in (
      h.0,
      labels-rise key (key l) f both.0,
      labels-rise key (last_key key (key l) f) g (subst (λ k. Sorted key k (labels g)) (final-labels key (key l) f) both.1),
    )

-- ---- Bounds

pub final-above : (key : ℕ → ℕ) (low : ℕ) (xs : List ℕ) → Sorted key low xs → low ≤ final key low xs
final-above key low [] h = omega arith
final-above key low (x ∷ xs) h = let more = final-above key (key x) xs h.1 in omega (arith, h.0)

pub start-above : (key : ℕ → ℕ) (low high : ℕ) (xs : List ℕ) → Sorted key low xs → final key low xs < high → low < start key high xs
start-above key low high [] h lt = lt
start-above key low high (x ∷ xs) h lt = h.0

pub start-most : (key : ℕ → ℕ) (low high : ℕ) (xs : List ℕ) → Sorted key low xs → final key low xs < high → start key high xs ≤ high
start-most key low high [] h lt = omega arith
start-most key low high (x ∷ xs) h lt = let more = final-above key (key x) xs h.1 in omega arith

-- what is above another bound, too
pub sorted-from : (key : ℕ → ℕ) (low other high : ℕ) (xs : List ℕ) → Sorted key low xs → other < start key high xs → Sorted key other xs
sorted-from key low other high [] h lt = tt
sorted-from key low other high (x ∷ xs) h lt = (lt, h.1)

pub final-from : (key : ℕ → ℕ) (low other high : ℕ) (xs : List ℕ) → final key low xs < high → other < start key high xs → final key other xs < high
final-from key low other high [] h lt = lt
final-from key low other high (x ∷ xs) h lt = h

-- ---- Keys that are the same

abbrev pub Agree : (ℕ → ℕ) → (ℕ → ℕ) → List ℕ → Type 0
Agree key own ns = (n : ℕ) → is_among n ns ≡ true → own n ≡ key n

first_agrees : (key own : ℕ → ℕ) (x : ℕ) (xs : List ℕ) → Agree key own (x ∷ xs) → own x ≡ key x
first_agrees key own x xs h = h x (or_left (x == x) _ (eq-eqb x x refl))

others_agree : (key own : ℕ → ℕ) (x : ℕ) (xs : List ℕ) → Agree key own (x ∷ xs) → Agree key own xs
others_agree key own x xs h n e = h n (or_right (x == n) _ e)

pub sorted-same : (key own : ℕ → ℕ) (low : ℕ) (xs : List ℕ) → Agree key own xs → Sorted key low xs → Sorted own low xs
sorted-same key own low [] a h = tt
sorted-same key own low (x ∷ xs) a h =
    let is = first_agrees key own x xs a in
    (omega (arith, is, h.0), subst (λ k. Sorted own k xs) (sym is) (sorted-same key own (key x) xs (others_agree key own x xs a) h.1))

pub final-same : (key own : ℕ → ℕ) (low : ℕ) (xs : List ℕ) → Agree key own xs → final own low xs ≡ final key low xs
final-same key own low [] a = refl
final-same key own low (x ∷ xs) a =
    ap (λ k. final own k xs) (first_agrees key own x xs a) ∙ final-same key own (key x) xs (others_agree key own x xs a)

pub start-same : (key own : ℕ → ℕ) (high : ℕ) (xs : List ℕ) → Agree key own xs → start own high xs ≡ start key high xs
start-same key own high [] a = refl
start-same key own high (x ∷ xs) a = first_agrees key own x xs a
