-- What `parse_pattern` answers.
use Rattle.std.specs.Prelude.{ℕ, List, Result, Ok, Err}
use Rattle.spec_document.specs.Scope.{Scope}
use Rattle.spec_expression.specs.Token.{Token}
use Rattle.spec_static.specs.PatternGrammar.{Gives, ParsesPattern}
use Rattle.xt_syntax.specs.declared.pattern.Pattern.{Pattern}
use Rattle.xt_syntax.specs.PartView.{pattern_of}
use Rattle.xt_pattern.specs.declared.fault.PatternFault.{PatternFault}
use Rattle.xt_pattern.specs.declared.fault.PatternFault.TheVariants.{Memory, Refused}

-- what the tokens give, unless memory ran out
abbrev pub Given : Scope → List Token → Result Pattern PatternFault → Type 0
Given scope ts (Ok p) = Gives scope ts (Ok (pattern_of p))
Given scope ts (Err Memory) = Unit {0}
Given scope ts (Err (Refused why)) = Gives scope ts (Err why)

-- what the text gives, unless memory ran out
abbrev pub Parsed : Scope → List ℕ → Result Pattern PatternFault → Type 0
Parsed scope text (Ok p) = ParsesPattern scope text (Ok (pattern_of p))
Parsed scope text (Err Memory) = Unit {0}
Parsed scope text (Err (Refused why)) = ParsesPattern scope text (Err why)
