use Rattle.std.proofs.Common.{◌≡◌, ◌∷◌, ◌++◌, drop}
use Rattle.xt_driver.proofs.globals.with_name.Given as goal

abbrev pub invariant-loop-other : goal.invariant-loop-other
invariant-loop-other l = l.all.items ++ drop l.other-index l.names ≡ l.fn.name ∷ l.names
