use Rattle.std.proofs.Common.{◌≡◌, ◌++◌, drop}
use Rattle.xp_axes.specs.Placed.{HasNamespaces, places_of}
use Rattle.xp_axes.proofs.ordered.places.Given as goal

abbrev pub invariant-loop-node : goal.invariant-loop-node
invariant-loop-node l =
    (l.placed.items ++ places_of l.document (drop l.node-index l.nodes) ≡ places_of l.document l.nodes)
    × HasNamespaces l.document l.owner.id.number l.owner.namespaces
