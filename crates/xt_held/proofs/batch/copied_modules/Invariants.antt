use Rattle.std.proofs.Common.{drop}
use Rattle.xt_held.specs.Tried.{AreSame}
use Rattle.xt_held.proofs.batch.copied_modules.Given as goal

abbrev pub invariant-loop-index : goal.invariant-loop-index
invariant-loop-index l = AreSame (drop l.index l.modules.entries) l.copy.entries
