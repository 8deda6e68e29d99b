use Rattle.std.proofs.Common.{◌≡◌, take}
use Rattle.spec_run.specs.Documents.{Parameters}
use Rattle.xt_world.specs.View.{truth_in}
use Rattle.xt_own.specs.Keys.{AreNodesOf, nodes_of}
use Rattle.xt_own.proofs.own_key.own_nodes.Given as goal

abbrev pub invariant-loop-node : goal.invariant-loop-node
invariant-loop-node l = record {
  nodes : nodes_of l.owns.items ≡ take l.node-index l.nodes;
  known : (parameters : Parameters) → AreNodesOf l.stylesheet (truth_in l.stylesheet parameters l.document) l.name l.owns.items;
}
