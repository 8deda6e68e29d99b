use Rattle.std.proofs.Common.{◌≡◌, ◌++◌, drop}
use Rattle.xt_scoping.specs.Reach.{sets_at, sets_in}
use Rattle.xt_scoping.proofs.graph.sets_of.Given as goal

abbrev pub invariant-loop-element : goal.invariant-loop-element
invariant-loop-element l = sets_at l.sets.items ++ sets_in (drop l.element-index l.ranked) ≡ sets_in l.ranked
