use Rattle.std.proofs.Common.{◌≡◌, ◌++◌, drop}
use Rattle.spec_document.specs.Name.{Expanded}
use Rattle.spec_compile.specs.Scoping.{used_by}
use Rattle.xt_scoping.specs.Reach.{sets_at, used_in}
use Rattle.xt_scoping.proofs.graph.graph_of.Given as goal

abbrev pub invariant-loop-set : goal.invariant-loop-set
invariant-loop-set l =
    (name : Expanded) → used_in l.graph name ++ used_by (sets_at (drop l.set-index l.sets)) name ≡ used_by (sets_at l.sets) name
