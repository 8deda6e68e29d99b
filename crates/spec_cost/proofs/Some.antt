-- Some of a list are no more than all.
use Rattle.std.proofs.Common.{ℕ, List, arith}
use Rattle.std.specs.Prelude.{◌≤◌, length}
use Rattle.spec_node.specs.declared.node_ref.NodeRef.{NodeRef}
use Rattle.spec_run.specs.Trail.{Kept}
use Rattle.spec_run.specs.Meaning.{Setting}
use Rattle.spec_reuse.specs.Among.{AreSomeOf, no_more, taken, left_out}
use Rattle.spec_reuse.specs.Instantiation.{instantiations}
use Rattle.spec_cost.specs.Marking.{Mark}
use Rattle.spec_cost.specs.Paying.{IsCost}

some_are_no_more : {A : Type 0} {xs ys : List A} → AreSomeOf xs ys → length xs ≤ length ys
some_are_no_more no_more = omega arith
some_are_no_more (taken more) = let fewer = some_are_no_more more in omega (arith, fewer)
some_are_no_more (left_out more) = let fewer = some_are_no_more more in omega (arith, fewer)

pub no_more_is_run : (s : Setting NodeRef) (before after : List (Kept NodeRef)) (marks left : List Mark) (ran asked : ℕ) → IsCost s before marks ran asked after left → ran ≤ length (instantiations s)
no_more_is_run s before after marks left ran asked cost =
    let fewer = some_are_no_more cost.counted.of_run in
    let told = cost.told in
    omega (arith, fewer, told)
