-- How tightly tokens bind: a part of an expression is followed by a token of a lesser rank than its
-- own, or by none. No definition of expressions rests on this; proofs that read them do.
use Rattle.std.specs.Prelude.{ℕ, List, [], ◌∷◌}
use Rattle.spec_expression.specs.declared.Level.{Level}
use Rattle.spec_expression.specs.declared.Level.TheVariants.{OrExpr, AndExpr, EqualityExpr, RelationalExpr, AdditiveExpr, MultiplicativeExpr, UnaryExpr, UnionExpr, PathExpr}
use Rattle.spec_expression.specs.Token.{Token, Close, OpenSquare, CloseSquare, Comma, Slash, SlashSlash, Binary}
use Rattle.spec_expression.specs.Grammar.{level_of}

abbrev pub rank : Level → ℕ
rank OrExpr = 1
rank AndExpr = 2
rank EqualityExpr = 3
rank RelationalExpr = 4
rank AdditiveExpr = 5
rank MultiplicativeExpr = 6
rank UnaryExpr = 7
rank UnionExpr = 8
rank PathExpr = 9

-- a token that goes on a part of this rank, 0 where it closes, 12 where it follows nothing
abbrev pub token_rank : Token → ℕ
token_rank Close = 0
token_rank CloseSquare = 0
token_rank Comma = 0
token_rank (Binary o) = rank (level_of o)
token_rank Slash = 9
token_rank SlashSlash = 9
token_rank OpenSquare = 10
token_rank _ = 12

abbrev pub head_rank : List Token → ℕ
head_rank [] = 0
head_rank (t ∷ ts) = token_rank t
