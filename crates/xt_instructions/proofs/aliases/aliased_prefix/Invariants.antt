use Rattle.std.proofs.Common.{◌≡◌, map, drop}
use Rattle.spec_run.specs.Content.{aliased_prefix}
use Rattle.xt_syntax.specs.SheetView.{alias_of}
use Rattle.xt_instructions.proofs.aliases.aliased_prefix.Given as goal

-- none of those before
abbrev pub invariant-loop-alias : goal.invariant-loop-alias
invariant-loop-alias l = aliased_prefix (map alias_of (drop l.alias-index l.aliases)) l.prefix l.uri ≡ aliased_prefix (map alias_of l.aliases) l.prefix l.uri
