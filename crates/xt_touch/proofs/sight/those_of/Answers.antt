use Rattle.std.proofs.Common.{arith}
use Rattle.spec_document.specs.Forest.{labels}
use Rattle.spec_change.specs.Change.{is_among}
use Rattle.xt_touch.proofs.Missing.{taken_turn}
use Rattle.xt_touch.proofs.sight.those_of.Goals as goal

pub loop-node-preserved : goal.loop-node-preserved
loop-node-preserved c =
    λ told. taken_turn (is_among (labels c.args.document.now.nodes)) c.args.nodes.now c.loop-node.node-index _ _ _ _ (omega arith)
    (c.in_ok-next.ensures told) (c.loop-node.invariant told)
