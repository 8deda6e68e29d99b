-- Where numbers are distinct, no number stands at two nodes, and there are no more nodes than numbers below the limit.
use Rattle.std.proofs.Common.{◌≡◌, ℕ, zero, suc, ◌+◌, ◌<◌, ◌≤◌, ◌==◌, true, false, not, List, [], ◌∷◌, ◌++◌, length, refl, sym, ap, ◌∙◌, arith, eq-eqb, length-append, ⊎_elim}
use Rattle.std.specs.Prelude.{◌&&◌, ◌||◌, nat_lt, nat_eq}
use Rattle.std.specs.List.{list_all, range_with_len, AllByRecursion, IsDistinct}
use Rattle.std.specs.Set.{is_member}
use Rattle.std.proofs.lemmas.Bool.{eqb-true, and_parts, ltb-true}
use Rattle.std.proofs.lemmas.Cmp.{nat_eq_equiv}
use Rattle.std.proofs.lemmas.Map.Made.{length-le_from_is_member}
use Rattle.std.proofs.lemmas.List.Folds.{list_any-append}
use Rattle.std.proofs.lemmas.List.FromFn.{length-range_with_len}
use Rattle.spec_document.specs.Forest as spec
use Rattle.spec_document.specs.Forest.{Forest, labels, size}
use Rattle.spec_document.specs.Numbering.{number_limit}
use Rattle.xt_tree.specs.Keys.{AreApart, has_number}
use Rattle.xt_tree.specs.Numbers.{are_distinct, IsNumbered}
use Rattle.xt_tree.proofs.Bools.{not_true, not_both, apart, or_false, or_cases}
use Rattle.xt_tree.proofs.Distinct.{is_among, not_false, distinct_parts, not_before}

-- ---- No number at two nodes

pub has-among : (n : ℕ) (f : Forest ℕ) → has_number n f ≡ is_among n (labels f)
has-among n spec.Empty = refl
has-among n (spec.Node l c f g) =
    ap (λ b. (l == n) || (b || has_number n g)) (has-among n f) ∙ ap (λ b. (l == n) || (is_among n (labels f) || b)) (has-among n g)
    ∙ ap (λ b. (l == n) || b) (sym (list_any-append (λ m. m == n) (labels f) (labels g)))

pub apart_nodes : (f : Forest ℕ) → are_distinct (labels f) ≡ true → AreApart f
apart_nodes spec.Empty h = tt
apart_nodes (spec.Node l c f g) h =
    let parts = and_parts (not (is_among l (labels f ++ labels g))) (are_distinct (labels f ++ labels g)) h in
    let both = distinct_parts (labels f) (labels g) parts.1 in
    let own = or_false (is_among l (labels f)) (is_among l (labels g))
    (sym (list_any-append (λ m. m == l) (labels f) (labels g)) ∙ not_false _ parts.0) in (
      has-among l f ∙ own.0,
      has-among l g ∙ own.1,
      λ n e. not_true (has_number n g) (λ d. not_both (is_among n (labels f)) (sym (has-among n f) ∙ e)
          (not_before (labels f) (labels g) n parts.1 (sym (has-among n g) ∙ d))),
      apart_nodes f both.0,
      apart_nodes g both.1,
    )

-- ---- How many there may be

others : (n : ℕ) (ns : List ℕ) → is_among n ns ≡ false → AllByRecursion (λ m. nat_eq n m ≡ false) ns
others n [] h = tt
others n (m ∷ ns) h =
    let parts = or_false (m == n) (is_among n ns) h in
    (apart n m (λ e. not_both (m == n) (eq-eqb m n (sym e)) parts.0), others n ns parts.1)

distinct : (ns : List ℕ) → are_distinct ns ≡ true → IsDistinct nat_eq ns
unfolding IsDistinct
distinct [] h = tt
distinct (n ∷ ns) h =
    let parts = and_parts (not (is_among n ns)) (are_distinct ns) h in
    (others n ns (not_false _ parts.0), distinct ns parts.1)

in_range : (n first count : ℕ) → first ≤ n → n < first + count → is_member nat_eq (range_with_len first count) n ≡ true
in_range n first zero h k = absurd (omega arith)
in_range n first (suc count) h k =
    elim (n == first) as (λ b. (n == first) ≡ b → (b || is_member nat_eq (range_with_len (first + 1) count) n) ≡ true) [
      | true ↦ λ _. refl
      | false ↦ λ e. in_range n (first + 1) count (further e) (omega arith)
    ] refl
  where
    further : (n == first) ≡ false → first + 1 ≤ n
    further e = let other : n ≡ first → ⊥ = λ d. not_both (n == first) (eq-eqb n first d) e in omega arith

below : (limit n : ℕ) (ns : List ℕ) → list_all (λ m. nat_lt m limit) ns ≡ true → is_member nat_eq ns n ≡ true → n < limit
below limit n [] h e = absurd (cc)
below limit n (m ∷ ns) h e =
    let parts = and_parts (nat_lt m limit) (list_all (λ m. nat_lt m limit) ns) h in
    ⊎_elim
    (λ own. let less : m < limit = ltb-true m limit parts.0 in let is : n ≡ m = eqb-true n m own in omega arith)
    (λ behind. below limit n ns parts.1 behind)
    (or_cases (nat_eq n m) (is_member nat_eq ns n) e)

few : (limit : ℕ) (ns : List ℕ) → are_distinct ns ≡ true → list_all (λ m. nat_lt m limit) ns ≡ true → length ns ≤ limit
few limit ns h k =
    let most = length-le_from_is_member nat_eq_equiv ns (range_with_len 0 limit) (distinct ns h)
    (λ n e. in_range n 0 limit (omega arith) (let less = below limit n ns k e in omega arith)) in
    omega (arith, most, length-range_with_len 0 limit)

pub length-labels : (f : Forest ℕ) → length (labels f) ≡ size f
length-labels spec.Empty = refl
length-labels (spec.Node l c f g) = omega (arith, length-append (labels f) (labels g), length-labels f, length-labels g)

-- what the numbers of a document say of its nodes
pub record AreFew (nodes : Forest ℕ) : Type 0 where
  pub apart : AreApart nodes
  pub size : size nodes < number_limit

few_at : (limit root : ℕ) (nodes : Forest ℕ) → (are_distinct (root ∷ labels nodes) && list_all (λ n. nat_lt n limit) (root ∷ labels nodes)) ≡ true
    → size nodes < limit
few_at limit root nodes h =
    let parts = and_parts (are_distinct (root ∷ labels nodes)) _ h in
    omega (arith, few limit (root ∷ labels nodes) parts.0 parts.1, length-labels nodes)

pub are_few : (root : ℕ) (nodes : Forest ℕ) → IsNumbered (record { root = root; nodes = nodes }) → AreFew nodes
are_few root nodes h =
    let parts = and_parts (are_distinct (root ∷ labels nodes)) (list_all (λ n. nat_lt n number_limit) (root ∷ labels nodes)) h in
    let own = and_parts (not (is_among root (labels nodes))) (are_distinct (labels nodes)) parts.0 in
    record { apart = apart_nodes nodes own.1; size = few_at number_limit root nodes h }
