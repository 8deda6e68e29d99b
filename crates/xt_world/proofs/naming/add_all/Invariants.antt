use Rattle.std.proofs.Common.{◌≡◌, ◌++◌, drop}
use Rattle.xt_world.proofs.naming.add_all.Given as goal

abbrev pub invariant-loop-name : goal.invariant-loop-name
invariant-loop-name l = l.names.items ++ drop l.name-index l.list ≡ l.fn.names.items ++ l.list
