use Rattle.std.proofs.Common.{take}
use Rattle.std.specs.List.{All}
use Rattle.xt_touch.specs.Named.{AreCovered, CoversNode}
use Rattle.xt_touch.proofs.named.Named.with_nodes.Given as goal

abbrev pub invariant-loop-node : goal.invariant-loop-node
invariant-loop-node l = record { nodes : All (CoversNode l.named) (take l.node-index l.nodes); before : AreCovered l.fn.self l.named }
