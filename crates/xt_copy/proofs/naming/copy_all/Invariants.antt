use Rattle.std.proofs.Common.{◌≡◌, ◌++◌, map, drop}
use Rattle.xt_names.specs.View.{entry_of, entries_of}
use Rattle.xt_copy.proofs.naming.copy_all.Given as goal

abbrev pub invariant-loop-namespace : goal.invariant-loop-namespace
invariant-loop-namespace l = map entry_of l.list.items ++ entries_of (drop l.namespace-index l.namespaces) ≡ entries_of l.namespaces
