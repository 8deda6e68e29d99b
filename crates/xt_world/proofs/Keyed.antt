-- What was found of keys is what is true of them.
use Rattle.std.proofs.Common.{◌≡◌, ℕ, List, [], filter, Option, None, Some, Ok, Err, refl, sym, ap, ◌∙◌}
use Rattle.std.specs.Prelude.{Result}
use Rattle.spec_document.specs.Name.{Expanded}
use Rattle.spec_stylesheet.specs.Sheet.{Unit}
use Rattle.spec_meaning.specs.Question.{Question, Answer, SomeNodes}
use Rattle.spec_meaning.specs.Question as question
use Rattle.spec_meaning.specs.Program.{Program, Give, Refuse, Ask, Need, Wanted, Given, Supply, State, Said, Gives, Refuses, Lacks, if_given, outcome_of, then}
use Rattle.spec_transform.specs.Key.{Entry, has, indexed, keyed, keys_named, no_globals}
use Rattle.spec_node.specs.declared.node_ref.NodeRef.{NodeRef}
use Rattle.spec_node.specs.Naming.{same_ref}
use Rattle.xt_questions.specs.Runs.{Runs}
use Rattle.xt_questions.specs.declared.fault.EvalFault.{EvalFault}
use Rattle.xt_questions.specs.declared.fault.EvalFault.TheVariants as faults
use Rattle.xt_keys.specs.View.{nodes_found}
use Rattle.xt_keys.specs.declared.groups.KeyIndex.{KeyIndex}
use Rattle.xt_world.specs.KeyView.{IsFoundBy, answer_found}
use Rattle.xt_world.specs.declared.found.Found.{Found}
use Rattle.xt_world.proofs.Choosing.{said_so}

-- what is answered where this is said of the nodes that have a value
abbrev told : Said (List NodeRef) → Answer NodeRef
told (Gives nodes) = SomeNodes nodes
told (Refuses why) = question.Refused why
told (Lacks wanted) = SomeNodes []

-- of these nodes, those that have such an entry
abbrev select : List NodeRef → List ℕ → List (Entry NodeRef) → Program NodeRef (List NodeRef)
select nodes text entries = Give (filter (has same_ref entries text) nodes)

selected_given : (ask : Question NodeRef → Answer NodeRef) (supply : Supply NodeRef) (nodes : List NodeRef) (text : List ℕ) (w : Wanted)
    (next : Given NodeRef → Program NodeRef (List (Entry NodeRef)))
    → ((g : Given NodeRef) → keyed same_ref nodes text (outcome_of ask supply (next g)) ≡ told (outcome_of ask supply (then (next g) (select nodes text))))
    → (o : Option (Given NodeRef)) → keyed same_ref nodes text (if_given (λ g. outcome_of ask supply (next g)) (Lacks w) o)
    ≡ told (if_given (λ g. outcome_of ask supply (then (next g) (select nodes text))) (Lacks w) o)
selected_given ask supply nodes text w next rest None = refl
selected_given ask supply nodes text w next rest (Some g) = rest g

selected : (ask : Question NodeRef → Answer NodeRef) (supply : Supply NodeRef) (nodes : List NodeRef) (text : List ℕ)
    (p : Program NodeRef (List (Entry NodeRef)))
    → keyed same_ref nodes text (outcome_of ask supply p) ≡ told (outcome_of ask supply (then p (select nodes text)))
unfolding then
selected ask supply nodes text (Give entries) = refl
selected ask supply nodes text (Refuse why) = refl
selected ask supply nodes text (Ask q next) = selected ask supply nodes text (next (ask q))
selected ask supply nodes text (Need w next) = selected_given ask supply nodes text w next (λ g. selected ask supply nodes text (next g)) (supply w)

pub found_is : (units : List Unit) (nodes : List NodeRef) (name : Expanded) (source : Question NodeRef → Answer NodeRef) (old new : State NodeRef)
    (r : Result KeyIndex EvalFault) (f : Found) → old.truth ≡ source
    → ((text : List ℕ) → Runs (nodes_found text) no_globals 0 (then (indexed same_ref (keys_named name units) nodes []) (select nodes text)) old new r)
    → IsFoundBy r f → (text : List ℕ)
    → answer_found f text ≡ keyed same_ref nodes text (outcome_of source no_globals (indexed same_ref (keys_named name units) nodes []))
found_is units nodes name source old new r f true_so runs is text = by r (runs text) is
  where
    all : Program NodeRef (List (Entry NodeRef))
    all = indexed same_ref (keys_named name units) nodes []

    so : (said : Said (List NodeRef)) → outcome_of old.truth no_globals (then all (select nodes text)) ≡ said
        → told said ≡ keyed same_ref nodes text (outcome_of source no_globals all)
    so said h =
        ap told (sym h) ∙ sym (selected old.truth no_globals nodes text all)
        ∙ ap (λ (ask : Question NodeRef → Answer NodeRef). keyed same_ref nodes text (outcome_of ask no_globals all)) true_so

    by : (r : Result KeyIndex EvalFault) → Runs (nodes_found text) no_globals 0 (then all (select nodes text)) old new r → IsFoundBy r f
        → answer_found f text ≡ keyed same_ref nodes text (outcome_of source no_globals all)
    by (Ok index) h is = ap (λ (f : Found). answer_found f text) is ∙ so _ (said_so no_globals 0 (then all (select nodes text)) old _ h.so)
    by (Err (faults.Refused why)) h is = ap (λ (f : Found). answer_found f text) is ∙ so _ (said_so no_globals 0 (then all (select nodes text)) old _ h.so)
    by (Err (faults.Wants name)) h is = ap (λ (f : Found). answer_found f text) is ∙ so _ (said_so no_globals 0 (then all (select nodes text)) old _ h.so)
    by (Err faults.Memory) h is = absurd is
