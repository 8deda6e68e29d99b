use Rattle.std.proofs.Common.{◌≡◌, ◌≤◌, drop, map}
use Rattle.spec_expression.specs.Token.{is_deep}
use Rattle.xp_parse.specs.View.{token_of}
use Rattle.xp_parse.proofs.text.is_deep.Given as goal

abbrev pub invariant-loop-token : goal.invariant-loop-token
invariant-loop-token l = record
    { same : is_deep 0 (map token_of l.tokens) ≡ is_deep l.depth (map token_of (drop l.token-index l.tokens)); within : l.depth ≤ 64 }
