-- The keys of a name, as they were found.
use Rattle.std.specs.Prelude.{◌≡◌, ℕ, List, [], ◌∷◌, map, Option, None, Some, Result, Ok, Err, if◌then◌else◌}
use Rattle.spec_document.specs.Name.{Expanded, same_name}
use Rattle.spec_document.specs.Forest.{Document}
use Rattle.spec_document.specs.Order.{entries_of}
use Rattle.spec_stylesheet.specs.Sheet.{Unit}
use Rattle.spec_meaning.specs.Question.{Answer, SomeNodes}
use Rattle.spec_meaning.specs.Question as question
use Rattle.spec_run.specs.World.{keyed_at}
use Rattle.spec_node.specs.declared.node_ref.NodeRef.{NodeRef}
use Rattle.spec_node.specs.Naming.{ref_of, same_ref}
use Rattle.xt_questions.specs.View.{refusal_of}
use Rattle.xt_questions.specs.declared.fault.EvalFault.{EvalFault}
use Rattle.xt_questions.specs.declared.fault.EvalFault.TheVariants as faults
use Rattle.xt_document_world.specs.View.{truth_of}
use Rattle.xt_keys.specs.View.{nodes_found}
use Rattle.xt_keys.specs.declared.groups.KeyIndex.{KeyIndex}
use Rattle.xt_world.specs.declared.found.Found.{Found}
use Rattle.xt_world.specs.declared.found.Found.TheVariants as founds
use Rattle.xt_world.specs.declared.found.FoundKeys.{FoundKeys}

-- what is answered for a value
abbrev pub answer_found : Found → List ℕ → Answer NodeRef
answer_found (founds.Index index) text = SomeNodes (nodes_found text index)
answer_found (founds.Refused why) text = question.Refused (refusal_of why)
answer_found founds.Nothing text = SomeNodes []

abbrev pub found_for : List FoundKeys → Expanded → Option Found
found_for [] name = None
found_for (k ∷ ks) name = if same_name k.name name then Some k.found else found_for ks name

-- what is true of the keys of a name, where these are the units of the stylesheet
abbrev pub keyed_in : List Unit → Document ℕ → Expanded → List ℕ → Answer NodeRef
keyed_in units document name text = keyed_at same_ref units (truth_of document) (map ref_of (entries_of document)) name text

-- what an index comes to; no index is found where memory does not hold out
abbrev pub IsFoundBy : Result KeyIndex EvalFault → Found → Type 0
IsFoundBy (Ok index) found = found ≡ founds.Index index
IsFoundBy (Err (faults.Refused why)) found = found ≡ founds.Refused why
IsFoundBy (Err (faults.Wants name)) found = found ≡ founds.Nothing
IsFoundBy (Err faults.Memory) found = ⊥
