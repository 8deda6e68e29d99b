use Rattle.std.proofs.Common.{◌≡◌, ◌++◌, map, drop}
use Rattle.spec_run.specs.Content.{namespaces_aliased}
use Rattle.xt_syntax.specs.SheetView.{alias_of}
use Rattle.xt_names.specs.View.{entry_of}
use Rattle.xt_instructions.proofs.aliases.aliased_namespaces.Given as goal

-- those before are there
abbrev pub invariant-loop-namespace : goal.invariant-loop-namespace
invariant-loop-namespace l =
    let aliases = map alias_of l.aliases in
    map entry_of l.list.items ++ namespaces_aliased aliases (map entry_of (drop l.namespace-index l.namespaces)) ≡ namespaces_aliased aliases (map entry_of l.namespaces)
