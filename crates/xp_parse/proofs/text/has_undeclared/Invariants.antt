use Rattle.std.proofs.Common.{◌≡◌, drop, map}
use Rattle.std.specs.List.{list_any}
use Rattle.spec_expression.specs.Grammar.{is_undeclared}
use Rattle.xp_parse.specs.View.{token_of}
use Rattle.xp_parse.proofs.text.has_undeclared.Given as goal

abbrev pub invariant-loop-token : goal.invariant-loop-token
invariant-loop-token l = list_any (is_undeclared l.scope) (map token_of l.tokens) ≡ list_any (is_undeclared l.scope)
    (map token_of (drop l.token-index l.tokens))
