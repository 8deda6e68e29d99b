-- What `parse` answers.
use Rattle.std.specs.Prelude.{ℕ, List, Result, Ok, Err}
use Rattle.spec_document.specs.Scope.{Scope}
use Rattle.spec_expression.specs.Token.{Token}
use Rattle.spec_expression.specs.Grammar.{Gives, Parses}
use Rattle.xt_syntax.specs.declared.expr.Expr.{Expr}
use Rattle.xt_syntax.specs.View.{expr_of}
use Rattle.xp_parse.specs.declared.fault.ParseFault.{ParseFault}
use Rattle.xp_parse.specs.declared.fault.ParseFault.TheVariants.{Memory, Refused}

-- what the tokens give, unless memory ran out
abbrev pub Given : Scope → List Token → Result Expr ParseFault → Type 0
Given scope ts (Ok e) = Gives scope ts (Ok (expr_of e))
Given scope ts (Err Memory) = Unit {0}
Given scope ts (Err (Refused why)) = Gives scope ts (Err why)

-- what the text gives, unless memory ran out
abbrev pub Parsed : Scope → List ℕ → Result Expr ParseFault → Type 0
Parsed scope text (Ok e) = Parses scope text (Ok (expr_of e))
Parsed scope text (Err Memory) = Unit {0}
Parsed scope text (Err (Refused why)) = Parses scope text (Err why)
