use Rattle.std.proofs.Common.{arith}
use Rattle.spec_document.specs.Forest.{labels}
use Rattle.xt_touch.proofs.Siblings.{missing_turn}
use Rattle.xt_touch.proofs.sight.missing.Goals as goal

pub loop-sibling-preserved : goal.loop-sibling-preserved
loop-sibling-preserved c =
    missing_turn (labels c.args.other.now.nodes) c.args.siblings.now c.loop-sibling.sibling-index c.sibling-item.result _ _ _ (omega arith)
    c.sibling-item.is c.in_ok-push_if_missing.ensures c.loop-sibling.invariant
