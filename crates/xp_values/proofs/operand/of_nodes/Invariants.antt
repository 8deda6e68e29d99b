use Rattle.std.proofs.Common.{◌≡◌, ◌++◌, map, drop}
use Rattle.spec_meaning.specs.Compare.{OfNode}
use Rattle.xp_values.specs.OperandView.{operand_of}
use Rattle.xp_values.proofs.operand.of_nodes.Given as goal

abbrev pub invariant-loop-node : goal.invariant-loop-node
invariant-loop-node l = map operand_of l.list.items ++ map OfNode (drop l.node-index l.nodes) ≡ map OfNode l.nodes
