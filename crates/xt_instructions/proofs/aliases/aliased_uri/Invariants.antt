use Rattle.std.proofs.Common.{◌≡◌, map, drop}
use Rattle.spec_run.specs.Content.{aliased_uri}
use Rattle.xt_syntax.specs.SheetView.{alias_of}
use Rattle.xt_instructions.proofs.aliases.aliased_uri.Given as goal

-- none of those before
abbrev pub invariant-loop-alias : goal.invariant-loop-alias
invariant-loop-alias l = aliased_uri (map alias_of (drop l.alias-index l.aliases)) l.uri ≡ aliased_uri (map alias_of l.aliases) l.uri
