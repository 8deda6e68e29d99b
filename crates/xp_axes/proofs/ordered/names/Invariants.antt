use Rattle.std.proofs.Common.{◌≡◌, ◌++◌, map, drop}
use Rattle.xp_axes.specs.Placed.{Placed}
use Rattle.xp_axes.proofs.ordered.names.Given as goal

abbrev pub invariant-loop-each : goal.invariant-loop-each
invariant-loop-each l =
    l.nodes.items ++ map (λ (p : Placed). p.node) (drop l.each-index l.placed) ≡ map (λ (p : Placed). p.node) l.placed
