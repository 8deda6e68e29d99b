use Rattle.std.proofs.Common.{arith}
use Rattle.xt_touch.proofs.Siblings.{loose_turn}
use Rattle.xt_touch.proofs.children.no_elements.Goals as goal

pub loop-sibling-preserved : goal.loop-sibling-preserved
loop-sibling-preserved c =
    loose_turn c.args.siblings.now c.loop-sibling.sibling-index c.sibling-item.result _ _ _ (omega arith)
    c.sibling-item.is c.in_ok-push_unless_element.ensures c.loop-sibling.invariant
