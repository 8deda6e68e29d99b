-- Where nodes are numbered in document order, their numbers are those of a document.
use Rattle.std.proofs.Common.{◌≡◌, ◌<◌, ◌≤◌, ℕ, ◌+◌, zero, suc, Bool, true, false, not, ◌∷◌, ◌++◌, ◌==◌, refl, sym, ap}
use Rattle.std.proofs.Common.{◌∙◌, arith}
use Rattle.std.specs.Prelude.{◌&&◌, ◌||◌, nat_lt}
use Rattle.std.specs.List.{list_any, list_all, range_with_len}
use Rattle.std.proofs.lemmas.Bool.{eqb-true, lt-ltb}
use Rattle.spec_document.specs.Numbering.{number_limit}
use Rattle.spec_document.specs.Forest as spec
use Rattle.xt_tree.specs.Numbers.{are_distinct, are_numbers, IsNumbered}

range-append : (n a b : ℕ) → range_with_len n (a + b) ≡ range_with_len n a ++ range_with_len (n + a) b
range-append n zero b =
    let none : 0 + b ≡ b = omega arith in
    let same : n ≡ n + 0 = omega arith in
    ap (range_with_len n) none ∙ ap (λ m. range_with_len m b) same
range-append n (suc a) b =
    let more : suc a + b ≡ suc (a + b) = omega arith in
    let same : n + 1 + a ≡ n + suc a = omega arith in
    ap (range_with_len n) more ∙ ap (λ xs. n ∷ xs) (range-append (n + 1) a b) ∙ ap (λ m. n ∷ range_with_len (n + 1) a ++ range_with_len m b) same

labels-numbered : {L : Type 0} (n : ℕ) (f : spec.Forest L) → spec.labels (spec.numbered n f) ≡ range_with_len n (spec.size f)
labels-numbered n spec.Empty = refl
labels-numbered n (spec.Node l c f g) =
    let more : suc (spec.size f + spec.size g) ≡ 1 + spec.size f + spec.size g = omega arith in
    ap (λ xs. n ∷ xs ++ spec.labels (spec.numbered (n + 1 + spec.size f) g)) (labels-numbered (n + 1) f)
    ∙ ap (λ xs. n ∷ range_with_len (n + 1) (spec.size f) ++ xs) (labels-numbered (n + 1 + spec.size f) g)
    ∙ ap (λ xs. n ∷ xs) (sym (range-append (n + 1) (spec.size f) (spec.size g))) ∙ ap (range_with_len n) more

other_number : (m n : ℕ) → m < n → (n == m) ≡ false
other_number m n h =
    elim (n == m) as (λ b. (n == m) ≡ b → b ≡ false) [
      | true ↦ λ e. absurd (let is : n ≡ m = eqb-true n m e in omega arith)
      | false ↦ λ _. refl
    ] refl

neither : (a b : Bool) → a ≡ false → b ≡ false → (a || b) ≡ false
neither true b h k = absurd (cc)
neither false b h k = k

both : (a b : Bool) → a ≡ true → b ≡ true → (a && b) ≡ true
both true b h k = k
both false b h k = absurd (cc)

not_later : (m n count : ℕ) → m < n → list_any (λ k. k == m) (range_with_len n count) ≡ false
not_later m n zero h = refl
not_later m n (suc count) h = neither (n == m) _ (other_number m n h) (not_later m (n + 1) count (omega arith))

distinct_range : (n count : ℕ) → are_distinct (range_with_len n count) ≡ true
distinct_range n zero = refl
distinct_range n (suc count) =
    both (not (list_any (λ k. k == n) (range_with_len (n + 1) count))) _ (ap not (not_later n (n + 1) count (omega arith))) (distinct_range (n + 1) count)

small_range : (n count : ℕ) → n + count ≤ number_limit → list_all (λ k. nat_lt k number_limit) (range_with_len n count) ≡ true
small_range n zero h = refl
small_range n (suc count) h = both (nat_lt n number_limit) _ (lt-ltb n number_limit (omega arith)) (small_range (n + 1) count (omega arith))

-- a root that is numbered first, and below it nodes numbered from the next on
pub ordered_numbers : (root : ℕ) (nodes : spec.Forest ℕ) → spec.numbered (root + 1) nodes ≡ nodes → root + spec.size nodes < number_limit
    → IsNumbered (record { root = root; nodes = nodes })
ordered_numbers root nodes order limit =
    let range : range_with_len (root + 1) (spec.size nodes) ≡ spec.labels nodes = sym (labels-numbered (root + 1) nodes) ∙ ap spec.labels order in
    ap (λ ns. are_numbers (root ∷ ns)) (sym range)
    ∙ both (are_distinct (range_with_len root (suc (spec.size nodes)))) _ (distinct_range root (suc (spec.size nodes)))
    (small_range root (suc (spec.size nodes)) (omega arith))
