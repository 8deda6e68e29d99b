use Rattle.std.proofs.Common.{◌≡◌, ◌++◌, map, drop}
use Rattle.xt_names.specs.View.{entry_of}
use Rattle.xt_driver.proofs.cut.copies.Given as goal

abbrev pub invariant-loop-namespace : goal.invariant-loop-namespace
invariant-loop-namespace l = map entry_of l.list.items ++ map entry_of (drop l.namespace-index l.namespaces) ≡ map entry_of l.namespaces
