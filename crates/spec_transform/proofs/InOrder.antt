-- Rows are put in the one order that their keys and then their old places give them.
use Rattle.std.proofs.Common.{◌≡◌, refl, sym, ap, subst, ◌∙◌, List, [], ◌∷◌, if◌then◌else◌}
use Rattle.spec_transform.specs.Sorted.{Criterion, Row, keys_before, put_in, in_order, row_before, IsSorted}
use Rattle.spec_transform.proofs.Arranged.{placed, arranged, arranges, stays, all_there, in_order_there}
use Rattle.spec_transform.proofs.KeyOrder.{rows}

put_is : {N : Type 0} (cs : List Criterion) (r : Row N) (rs : List (Row N)) → placed (row_before cs) (rows cs) r rs ≡ put_in cs r rs
put_is cs r [] = refl
put_is cs r (s ∷ rs) = λ i. if keys_before cs s.keys r.keys then s ∷ put_is cs r rs i else r ∷ s ∷ rs

order_is : {N : Type 0} (cs : List Criterion) (rs : List (Row N)) → arranged (row_before cs) (rows cs) rs ≡ in_order cs rs
order_is cs [] = refl
order_is cs (r ∷ rs) = put_is cs r (arranged (row_before cs) (rows cs) rs) ∙ ap (put_in cs r) (order_is cs rs)

pub sorts : {N : Type 0} (cs : List Criterion) (old : List (Row N)) → IsSorted cs old (in_order cs old)
sorts cs old = subst (IsSorted cs old) (order_is cs old) (record {
  permutation = all_there (row_before cs) (rows cs) old;
  sorted = in_order_there (row_before cs) (rows cs) old;
  stable = λ r. stays (row_before cs) (rows cs) r old;
})

pub one_order : {N : Type 0} (cs : List Criterion) (old one other : List (Row N)) → IsSorted cs old one → IsSorted cs old other → one ≡ other
one_order cs old one other h g =
    arranges (row_before cs) (rows cs) old one h.sorted h.stable ∙ sym (arranges (row_before cs) (rows cs) old other g.sorted g.stable)
