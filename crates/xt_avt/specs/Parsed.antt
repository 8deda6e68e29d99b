-- What `parse_avt` answers.
use Rattle.std.specs.Prelude.{ℕ, List, Result, Ok, Err}
use Rattle.spec_document.specs.Scope.{Scope}
use Rattle.spec_static.specs.TemplateGrammar.{ParsesTemplate}
use Rattle.xt_syntax.specs.declared.avt.Avt.{Avt}
use Rattle.xt_syntax.specs.PartView.{avt_of}
use Rattle.xt_avt.specs.declared.fault.AvtFault.{AvtFault}
use Rattle.xt_avt.specs.declared.fault.AvtFault.TheVariants.{Memory, Refused}

-- what the text gives as a value template, unless memory ran out
abbrev pub Parsed : Scope → List ℕ → Result Avt AvtFault → Type 0
Parsed scope text (Ok avt) = ParsesTemplate scope text (Ok (avt_of avt))
Parsed scope text (Err Memory) = Unit {0}
Parsed scope text (Err (Refused why)) = ParsesTemplate scope text (Err why)
