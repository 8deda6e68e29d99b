use Rattle.std.proofs.Common.{◌≡◌, length, map, false}
use denote.Text.{Utf8}
use denote.Shadow.{shadow}
use Rattle.std.specs.Str.{chars}
use Rattle.spec_expression.specs.Token.{cut}
use Rattle.xp_parse.specs.View.{token_of}
use Rattle.xp_parse.proofs.Pieces.{front_of}
use Rattle.xp_parse.proofs.cut.tokens.Given as goal

abbrev pub invariant-loop-first : goal.invariant-loop-first
invariant-loop-first l = shadow (Utf8 l.rest) × (cut 0 false (chars l.text) ≡ front_of (map token_of l.tokens.items) (cut 0 l.after_operand (chars l.rest)))

abbrev pub decreases-loop-first : goal.decreases-loop-first
decreases-loop-first l = length (chars l.rest)
