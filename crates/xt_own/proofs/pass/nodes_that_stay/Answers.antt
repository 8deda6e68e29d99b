use Rattle.std.proofs.Common.{arith}
use Rattle.xt_own.proofs.SideBySide.{one_more_node, some_is}
use Rattle.xt_own.proofs.pass.nodes_that_stay.Goals as goal

pub loop-node-preserved : goal.loop-node-preserved
loop-node-preserved c = record {
  bound = some_is _ c.in-Some.is c.in_ok-pass.ensures.bound;
  nodes = one_more_node c.args.now.now c.loop-node.node-index _ _ _ (omega arith) c.loop-node.invariant.nodes (some_is _ c.in-Some.is c.in_ok-pass.ensures.nodes);
  goes = λ was parameters answer agrees passed.
      some_is _ c.in-Some.is c.in_ok-pass.ensures.goes was parameters answer agrees (c.loop-node.invariant.goes was parameters answer agrees passed);
}

pub returns-clause-goes : goal.returns-clause-goes
returns-clause-goes c = λ was parameters answer agrees passed.
    c.in_ok-add_rest.ensures c.if-not-branch.false _ was _ c.args.scene.now.name.now answer _ (c.loop-node.invariant.goes was parameters answer agrees passed)
