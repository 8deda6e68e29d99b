use Rattle.std.proofs.Common.{arith}
use Rattle.std.specs.Global.{Global}
use Rattle.std.specs.declared.rc.Rc.{Rc}
use Rattle.xt_world.specs.View.{truth_in}
use Rattle.xt_own.specs.Keys.{IsNodeOf}
use Rattle.xt_own.specs.declared.own_node.OwnNode.{OwnNode}
use Rattle.xt_own.proofs.SideBySide.{nodes_push, one_more_known, one_more_node, some_is}
use Rattle.xt_own.proofs.own_key.own_nodes.Goals as goal

pub loop-node-preserved : goal.loop-node-preserved
loop-node-preserved c = record {
  nodes = one_more_node c.args.nodes.now c.loop-node.node-index _ _ _ (omega arith) c.loop-node.invariant.nodes
      (nodes_push _ _ _ _ c.in_ok-push-in-Some.ensures.items (some_is _ c.in-Some.is c.in_ok-own_node.ensures.node));
  known = λ parameters.
      let st = c.args.stylesheet.now in
      let ask = truth_in st parameters c.args.document.now in
      let K : Rc OwnNode Global → Type 0 = λ own. IsNodeOf st ask c.args.name.now own.value in
      one_more_known st ask c.args.name.now _ _ _ c.in_ok-push-in-Some.ensures.items (c.loop-node.invariant.known parameters)
      (some_is K c.in-Some.is (c.in_ok-own_node.ensures.known parameters));
}
