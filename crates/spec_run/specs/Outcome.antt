-- What documents come to: the result of the stylesheet on the source, with the parameters, its output method and its messages, or why there is
-- none, with the messages before it. Nothing but these bears on it: no number of a node, and nothing that was held before.
use Rattle.std.specs.Prelude.{◌≡◌, ℕ, List, [], Option, None, Some, Result, Ok, Err}
use Rattle.spec_document.specs.Name.{Expanded}
use Rattle.spec_document.specs.Forest.{Plain, Document}
use Rattle.spec_expression.specs.declared.code.Code.{Code}
use Rattle.spec_expression.specs.declared.code.Code.TheVariants.{Static, Dynamic}
use Rattle.spec_expression.specs.declared.code.StaticCode.TheVariants.{NoMain, NoSource}
use Rattle.spec_stylesheet.specs.declared.method.Method.{Method}
use Rattle.spec_stylesheet.specs.Place.{Place}
use Rattle.spec_stylesheet.specs.Sheet.{Sheet}
use Rattle.spec_structure.specs.Modules.{Modules}
use Rattle.spec_compile.specs.Sheet as compile
use Rattle.spec_compile.specs.Sheet.{IsSheet}
use Rattle.spec_seen.specs.Seen.{seen}
use Rattle.spec_result.specs.Shape.{shaped}
use Rattle.spec_run.specs.Documents.{Parameters, Documents, main_name}
use Rattle.spec_run.specs.Plan.{Refused, nowhere}
use Rattle.spec_run.specs.Meaning.{Whole, run_of}
use Rattle.spec_run.specs.World.{setting_of}

-- a code, and the element where it stands; at none where the place has no module
pub record Refusal : Type 0 where
  pub code : Code
  pub place : Place

pub data Outcome : Type 0 where
  Done : (result : Plain) → (method : Option (Method Expanded)) → (messages : List (List ℕ)) → Outcome
  Failed : (why : Refusal) → (messages : List (List ℕ)) → Outcome

-- ---- The outcome

abbrev pub document_of : Plain → Document (Unit {0})
document_of nodes = record { root = tt; nodes = nodes }

abbrev pub refused_static : compile.Refusal → Refusal
refused_static why = record { code = Static why.code; place = why.place }

abbrev pub refused_dynamic : Refused → Refusal
refused_dynamic why = record { code = Dynamic why.code; place = why.place }

abbrev pub outcome_by : Option (Method Expanded) → Whole → Outcome
outcome_by method whole = elim whole.refusal [
  | None ↦ Done (shaped whole.content) method whole.messages
  | Some why ↦ Failed (refused_dynamic why) whole.messages
]

-- The run sees the source without the texts that the rules of the stylesheet strip. A static refusal has no messages
abbrev pub outcome_of : Parameters → Plain → Result Sheet compile.Refusal → Outcome
outcome_of parameters source (Err why) = Failed (refused_static why) []
outcome_of parameters source (Ok sheet) =
    outcome_by sheet.method (run_of (setting_of sheet parameters (seen sheet.space_rules.rules (document_of source))))

-- S01: there is no module `main`; S02: there is no source
abbrev pub no_main : Refusal
no_main = record { code = Static NoMain; place = nowhere }

abbrev pub no_source : Refusal
no_source = record { code = Static NoSource; place = nowhere }

abbrev pub Comes : Modules → Parameters → Option Plain → Option Plain → Outcome → Type 0
Comes modules parameters None source outcome = outcome ≡ Failed no_main []
Comes modules parameters (Some main) None outcome = outcome ≡ Failed no_source []
Comes modules parameters (Some main) (Some source) outcome =
    (result : Result Sheet compile.Refusal) × IsSheet modules main_name result × (outcome ≡ outcome_of parameters source result)

-- the documents have this outcome
abbrev pub IsOutcome : Documents → Outcome → Type 0
IsOutcome documents outcome = Comes documents.modules documents.parameters (documents.modules main_name) documents.source outcome
