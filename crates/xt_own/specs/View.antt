-- What is known of the questions that were asked for a choice of a template rule, and of all that is kept of a run besides its records.
--     IsDecided    a choice is as it was in every world of the stylesheet in which these questions have the answers that they had
--     IsWorld      these are the answers of a source and parameters, for the stylesheet
--     OwnDecides   all choices are decided by what was asked for them, and keys are known by theirs, where these are the answers
--     Carries      what is left of that for a later run, in which some questions are spared
use Rattle.std.specs.Prelude.{◌≡◌, ℕ, Bool, true, false, List, [], ◌∷◌, Option}
use Rattle.spec_document.specs.Forest.{Document}
use Rattle.spec_meaning.specs.Question.{Question, Candidates, Step, Text, Name, Place, Order, Key, Choice, Copy, Unit as UnitOf, External}
use Rattle.spec_meaning.specs.Program.{Program, Read, Asked, Saw}
use Rattle.spec_document.specs.Name.{Expanded}
use Rattle.spec_node.specs.declared.node_ref.NodeRef.{NodeRef}
use Rattle.spec_node.specs.Naming.{same_ref}
use Rattle.spec_run.specs.Documents.{Parameters}
use Rattle.spec_transform.specs.Choice.{chosen, context_for}
use Rattle.xt_syntax.specs.SheetView.{rules_of}
use Rattle.xt_match.specs.Context.{units_in}
use Rattle.xt_touch.specs.View.{since_of}
use Rattle.xt_spared.specs.View.{Ask, Own, IsAmong, all_stay, owns_in, owns_of}
use Rattle.xt_spared.specs.declared.spared.Spared.{Spared}
use Rattle.xt_world.specs.View.{truth_in}
use Rattle.xt_world.specs.declared.stylesheet.Stylesheet.{Stylesheet}
use Rattle.xt_own.specs.Keys.{AgreeOn, AllKeys}
use Rattle.xt_own.specs.declared.own_reads.OwnReads.{OwnReads}
use Rattle.xt_own.specs.declared.own_reads.Prepared.{Prepared}

-- ---- Choices

-- whatever the source and the parameters: where what was asked for the choice has the answers that it had, the choice is as it was
abbrev pub IsDecided : Stylesheet → (was : Ask) → Own → Type 0
IsDecided s was own =
    (parameters : Parameters) (document : Document ℕ) → AgreeOn (truth_in s parameters document) was own.reads
    → truth_in s parameters document own.question ≡ was own.question

abbrev pub AllDecide : Stylesheet → (was : Ask) → List Own → Type 0
AllDecide s was [] = Unit {0}
AllDecide s was (own ∷ owns) = IsDecided s was own × AllDecide s was owns

-- ---- What is kept

pub record IsWorld (s : Stylesheet) (was : Ask) : Type 0 where
  pub parameters : Parameters
  pub document : Document ℕ
  pub answers : (question : Question NodeRef) → was question ≡ truth_in s parameters document question

pub record OwnDecides (s : Stylesheet) (was : Ask) (own : OwnReads) : Type 0 where
  pub choices : AllDecide s was (owns_of own.choices)
  pub keys : AllKeys s was own.keys.items
  -- what was gathered after a run was asked in a world
  pub world : own.gathered ≡ true → IsWorld s was

-- choices whose questions all stay are still decided by them
abbrev pub CarriesChoices : Stylesheet → Ask → Spared → Type 0
CarriesChoices s ask spared =
    (own : Own) → IsAmong own (owns_in spared.choices) → all_stay (since_of spared.since.now) spared.keys.items own.reads ≡ true → IsDecided s ask own

pub record Carries (s : Stylesheet) (ask : Ask) (p : Prepared) : Type 0 where
  pub choices : CarriesChoices s ask p.spared
  pub keys : AllKeys s ask p.keys.items

-- ---- How a choice is made once more

abbrev pub choice_made : Stylesheet → NodeRef → Option Expanded → Candidates → Program NodeRef (Option ℕ)
choice_made s node mode candidates = chosen same_ref (context_for (units_in s.units.items) node) node mode candidates (rules_of s.rules).rules

-- what the source and its keys answer
abbrev pub is_of_source : Question NodeRef → Bool
is_of_source (Step node axis test) = true
is_of_source (Text node) = true
is_of_source (Name node) = true
is_of_source (Place node) = true
is_of_source (Order nodes) = true
is_of_source (Key name value) = true
is_of_source (Choice node mode candidates) = false
is_of_source (Copy node) = false
is_of_source (UnitOf element) = false
is_of_source (External name) = false

-- all questions that were asked are so
abbrev pub AreOfSource : List (Read NodeRef) → Type 0
AreOfSource [] = Unit {0}
AreOfSource (Asked question answer ∷ reads) = (is_of_source question ≡ true) × AreOfSource reads
AreOfSource (Saw wanted depth given ∷ reads) = AreOfSource reads

-- both worlds answer alike what was asked
abbrev pub AgreeOnReads : (other was : Ask) → List (Read NodeRef) → Type 0
AgreeOnReads other was [] = Unit {0}
AgreeOnReads other was (Asked question answer ∷ reads) = (other question ≡ was question) × AgreeOnReads other was reads
AgreeOnReads other was (Saw wanted depth given ∷ reads) = AgreeOnReads other was reads

-- these are the questions that were asked, and the source answers them
pub record AreAsked (questions : List (Question NodeRef)) (reads : List (Read NodeRef)) : Type 0 where
  pub of_source : AreOfSource reads
  pub all : (other was : Ask) → AgreeOn other was questions → AgreeOnReads other was reads
