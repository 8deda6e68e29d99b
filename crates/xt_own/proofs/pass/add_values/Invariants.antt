use Rattle.std.proofs.Common.{take}
use Rattle.xt_own.specs.Keys.{Covers}
use Rattle.xt_own.proofs.pass.add_values.Given as goal

abbrev pub invariant-loop-value : goal.invariant-loop-value
invariant-loop-value l = Covers l.fn.but.items l.but.items × Covers (take l.value-index l.values) l.but.items
