-- Keys from one place on, where one of two lists of keys ends.
use Rattle.std.proofs.Common.{◌≡◌, ℕ, ◌<◌, ◌≤◌, arith, length, List, [], ◌∷◌, map, drop, Ordering, Less, Equal, Greater}
use Rattle.std.proofs.lemmas.List.{drop_more, drop_all}
use Rattle.xt_sort.specs.declared.row.Criterion.{Criterion}
use Rattle.xt_sort.specs.declared.row.KeyValue.{KeyValue}
use Rattle.xt_sort.specs.Order.{keys_order}
use Rattle.xt_sort.specs.View.{criterion_of, key_of}

abbrev pub order_from : ℕ → List Criterion → List KeyValue → List KeyValue → Ordering
order_from i cs vs ws = keys_order (map criterion_of (drop i cs)) (map key_of (drop i vs)) (map key_of (drop i ws))

some_of : {X : Type 0} (i : ℕ) (xs : List X) → i < length xs → X
some_of i [] p = absurd (omega (arith, p))
some_of i (x ∷ xs) p = x

module _ (i : ℕ) (cs : List Criterion) (vs ws : List KeyValue) (p : i < length cs) where
  pub both_end : length vs ≤ i → length ws ≤ i → order_from i cs vs ws ≡ Equal
  both_end q r = λ j. keys_order (map criterion_of (drop_more cs i (some_of i cs p) p j)) (map key_of (drop_all i vs q j)) (map key_of (drop_all i ws r j))

  pub first_ends : length vs ≤ i → i < length ws → order_from i cs vs ws ≡ Less
  first_ends q r =
      λ j. keys_order (map criterion_of (drop_more cs i (some_of i cs p) p j)) (map key_of (drop_all i vs q j)) (map key_of (drop_more ws i (some_of i ws r) r j))

  pub second_ends : i < length vs → length ws ≤ i → order_from i cs vs ws ≡ Greater
  second_ends q r =
      λ j. keys_order (map criterion_of (drop_more cs i (some_of i cs p) p j)) (map key_of (drop_more vs i (some_of i vs q) q j)) (map key_of (drop_all i ws r j))
