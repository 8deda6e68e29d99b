use Rattle.std.proofs.Common.{arith}
use Rattle.xt_touch.proofs.Within.{within_more}
use Rattle.xt_touch.proofs.source.with_all.Goals as goal

pub loop-node-preserved : goal.loop-node-preserved
loop-node-preserved c = record {
  nodes = within_more c.args.nodes.now c.loop-node.node-index _ c.loop-node.more _ (omega arith)
      c.with-more.ensures.number c.with-more.ensures.before c.loop-node.invariant.nodes;
  before = λ n h. c.with-more.ensures.before n (c.loop-node.invariant.before n h);
}
