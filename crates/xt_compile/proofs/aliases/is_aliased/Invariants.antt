use Rattle.std.proofs.Common.{◌≡◌, drop, map}
use Rattle.std.specs.List.{list_any}
use Rattle.spec_compile.specs.Sheet.{is_alias_of}
use Rattle.xt_syntax.specs.SheetView.{alias_of}
use Rattle.xt_compile.proofs.aliases.is_aliased.Given as goal

abbrev pub invariant-loop-other : goal.invariant-loop-other
invariant-loop-other l =
    list_any (is_alias_of (alias_of l.fn.alias)) (map alias_of (drop l.other-index l.others)) ≡ list_any (is_alias_of (alias_of l.fn.alias)) (map alias_of l.others)
