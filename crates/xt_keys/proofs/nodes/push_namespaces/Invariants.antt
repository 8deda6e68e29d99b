use Rattle.std.proofs.Common.{◌≡◌, ◌+◌, ◌++◌, drop}
use Rattle.xt_names.specs.View.{entries_of}
use Rattle.xt_keys.specs.Nodes.{namespace_refs}
use Rattle.xt_keys.proofs.nodes.push_namespaces.Given as goal

abbrev pub invariant-loop-index : goal.invariant-loop-index
invariant-loop-index l =
    l.nodes.items ++ namespace_refs l.id.number (l.index + 1) (drop l.index (entries_of l.namespaces.items))
    ≡ l.fn.nodes.items ++ namespace_refs l.id.number 1 (entries_of l.namespaces.items)
