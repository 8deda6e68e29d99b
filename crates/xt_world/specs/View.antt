-- What a world of a stylesheet and a source answers, by what it holds.
use Rattle.std.specs.Prelude.{◌≡◌, ℕ, List, [], Option, None, Some, Result, Ok, Err, slice_get, if◌then◌else◌}
use Rattle.std.specs.declared.rc.Rc.{Rc}
use Rattle.std.specs.Global.{Global}
use Rattle.spec_document.specs.Name.{Expanded}
use Rattle.spec_document.specs.Forest.{Document}
use Rattle.spec_document.specs.Order.{entries_of}
use Rattle.spec_stylesheet.specs.Sheet.{Rule}
use Rattle.spec_meaning.specs.Question as question
use Rattle.spec_meaning.specs.Question.{Question, Answer, Gone, Chosen, Copied, Resolved, Passed, Candidates, ChosenRule}
use Rattle.spec_meaning.specs.Program.{Said, Gives, outcome_of}
use Rattle.spec_meaning.specs.Truth.{entry_named, told_of}
use Rattle.spec_transform.specs.Choice.{context_for, chosen}
use Rattle.spec_transform.specs.Key.{no_globals}
use Rattle.spec_run.specs.Documents.{Parameters}
use Rattle.spec_run.specs.Copy.{copy_of}
use Rattle.spec_node.specs.declared.node_ref.NodeRef.{NodeRef}
use Rattle.spec_node.specs.Naming.{ref_of, same_ref}
use Rattle.xt_syntax.specs.SheetView.{rules_of}
use Rattle.xt_questions.specs.View.{resolved_of}
use Rattle.xt_questions.specs.declared.answer.ResolvedUnit.{ResolvedUnit}
use Rattle.xt_questions.specs.declared.fault.EvalFault.{EvalFault}
use Rattle.xt_questions.specs.declared.fault.EvalFault.TheVariants as faults
use Rattle.xt_match.specs.Context.{units_in}
use Rattle.xt_world.specs.SourceView.{source_in}
use Rattle.xt_world.specs.Turned.{turn_found}
use Rattle.xt_world.specs.declared.stylesheet.Stylesheet.{Stylesheet}

-- the unit of a turn, where its element is called so
abbrev pub unit_called : NodeRef → Option NodeRef → Option (Rc ResolvedUnit Global) → Answer NodeRef
unit_called element None unit = Gone
unit_called element (Some name) None = Gone
unit_called element (Some name) (Some unit) = if same_ref element name then Resolved (resolved_of unit.value) else Gone

abbrev pub unit_at_turn : Stylesheet → NodeRef → ℕ → Answer NodeRef
unit_at_turn s element turn = unit_called element (slice_get s.elements.items turn) (slice_get s.units.items turn)

-- the unit of the turn that the number of an element has
abbrev pub unit_turned : Stylesheet → NodeRef → Option ℕ → Answer NodeRef
unit_turned s element None = Gone
unit_turned s element (Some turn) = unit_at_turn s element turn

abbrev pub unit_held : Stylesheet → NodeRef → Answer NodeRef
unit_held s element = unit_turned s element (turn_found s.turns.entries element.node.number)

-- a rule, by the element of its unit, with what its stylesheet imports
abbrev pub chosen_in : Rule → Option NodeRef → Option (ChosenRule NodeRef)
chosen_in rule None = None
chosen_in rule (Some element) = Some (record { element = element; first = rule.imported; last = rule.precedence })

abbrev pub chosen_by : Stylesheet → Option Rule → Option (ChosenRule NodeRef)
chosen_by s None = None
chosen_by s (Some rule) = chosen_in rule (slice_get s.elements.items rule.unit)

abbrev pub rule_numbered : Stylesheet → Option ℕ → Option (ChosenRule NodeRef)
rule_numbered s None = None
rule_numbered s (Some number) = chosen_by s (slice_get (rules_of s.rules).rules number)

abbrev pub rule_held : Stylesheet → Said (Option ℕ) → Answer NodeRef
rule_held s (Gives number) = Chosen (rule_numbered s number)
rule_held s _ = Chosen None

-- the number of a choice that is made: a refusal chooses no rule
abbrev pub GivesNumber : Result (Option ℕ) EvalFault → Option ℕ → Type 0
GivesNumber (Ok chosen) number = number ≡ chosen
GivesNumber (Err (faults.Refused why)) number = number ≡ None
GivesNumber (Err (faults.Wants name)) number = number ≡ None
GivesNumber (Err faults.Memory) number = ⊥

-- which of these rules is chosen for a node, where these are the answers of the source
abbrev pub said_by : (Question NodeRef → Answer NodeRef) → List Rule → Stylesheet → NodeRef → Option Expanded → Candidates → Said (Option ℕ)
said_by source rules s node mode candidates =
    outcome_of source no_globals (chosen same_ref (context_for (units_in s.units.items) node) node mode candidates rules)

-- and which of those of the stylesheet
abbrev pub said_of : (Question NodeRef → Answer NodeRef) → Stylesheet → NodeRef → Option Expanded → Candidates → Said (Option ℕ)
said_of source s node mode candidates = said_by source (rules_of s.rules).rules s node mode candidates

-- a copy of a node of the source
abbrev pub copy_in : Document ℕ → NodeRef → Answer NodeRef
copy_in document node = told_of (λ e. Copied (copy_of e.item)) (entry_named ref_of same_ref (entries_of document) node)

-- the rule of a node of the source, among these
abbrev pub choice_with : (Question NodeRef → Answer NodeRef) → List Rule → Stylesheet → Document ℕ → NodeRef → Option Expanded → Candidates → Answer NodeRef
choice_with source rules s document node mode candidates =
    told_of (λ e. rule_held s (said_by source rules s node mode candidates)) (entry_named ref_of same_ref (entries_of document) node)

abbrev pub choice_by : (Question NodeRef → Answer NodeRef) → Stylesheet → Document ℕ → NodeRef → Option Expanded → Candidates → Answer NodeRef
choice_by source s document node mode candidates = choice_with source (rules_of s.rules).rules s document node mode candidates

-- all, where these are the answers of the source with its keys, and these the rules
abbrev pub truth_with : (Question NodeRef → Answer NodeRef) → List Rule → Stylesheet → Parameters → Document ℕ → Question NodeRef → Answer NodeRef
truth_with source rules s parameters document (question.Copy node) = copy_in document node
truth_with source rules s parameters document (question.Choice node mode candidates) = choice_with source rules s document node mode candidates
truth_with source rules s parameters document (question.Unit element) = unit_held s element
truth_with source rules s parameters document (question.External name) = Passed (parameters name)
truth_with source rules s parameters document q = source q

-- and with the rules of the stylesheet
abbrev pub truth_over : (Question NodeRef → Answer NodeRef) → Stylesheet → Parameters → Document ℕ → Question NodeRef → Answer NodeRef
truth_over source s parameters document q = truth_with source (rules_of s.rules).rules s parameters document q

-- before any keys are found
abbrev pub truth_in : Stylesheet → Parameters → Document ℕ → Question NodeRef → Answer NodeRef
truth_in s parameters document = truth_over (source_in s document []) s parameters document
