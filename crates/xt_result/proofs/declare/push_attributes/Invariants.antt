use Rattle.std.proofs.Common.{◌≡◌, drop}
use Rattle.spec_result.specs.Shape.{with_attributes}
use Rattle.xt_result.specs.View.{opening_of}
use Rattle.xt_result.proofs.declare.push_attributes.Given as goal

-- the attributes ahead are all that is still to be added
abbrev pub invariant-loop-index : goal.invariant-loop-index
invariant-loop-index l =
    with_attributes (drop l.index l.attributes) (opening_of l.opening) ≡ with_attributes l.attributes (opening_of l.fn.opening)
