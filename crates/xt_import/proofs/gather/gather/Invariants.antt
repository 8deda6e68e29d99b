use Rattle.std.proofs.Common.{reverse}
use Rattle.xt_import.specs.Gathering.{IsUnderway, pendings_cost}
use Rattle.xt_import.specs.View.{modules_in}
use Rattle.xt_import.proofs.gather.gather.Given as goal

abbrev pub invariant-loop-first : goal.invariant-loop-first
invariant-loop-first l =
    IsUnderway (modules_in l.fn.modules.entries) l.fn.target l.gathered.imports.items l.gathered.parts.items (reverse l.pending.items)

abbrev pub decreases-loop-first : goal.decreases-loop-first
decreases-loop-first l = pendings_cost (modules_in l.fn.modules.entries) (reverse l.pending.items)
