use Rattle.std.proofs.Common.{arith}
use Rattle.xt_touch.proofs.Members.{added_turn, all_added}
use Rattle.xt_touch.proofs.numbers.Numbers.add_all.Goals as goal

pub loop-node-preserved : goal.loop-node-preserved
loop-node-preserved c =
    added_turn c.args.nodes.now c.loop-node.node-index _ c.loop-node.self _ _ (omega arith) c.in_ok-add.ensures c.loop-node.invariant

pub returns : goal.returns
returns c = all_added c.args.nodes.now c.loop-node.node-index _ _ (omega arith) c.loop-node.invariant
