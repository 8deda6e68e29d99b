-- What a change costs: which instantiations of the new run are counted, where some are served by what was kept of the last run that ended with a result,
-- how many of the questions of that are asked again, and what is kept of the new one.
--     run_setting   the run of a stylesheet on a source whose nodes have numbers
--     KeepsRun      what is kept of a run
--     NoneMarked    none of the questions that are asked of the source, of a parameter, or for a unit is marked
--     IsCost        what a run costs
--     CostsOn       what a change costs, where there may be nothing to run
--     Pays          what a change makes of the past
use Rattle.std.specs.Prelude.{ℕ, ◌≡◌, ◌≤◌, ◌-◌, ◌^◌, List, [], ◌∷◌, length, min, Bool, true, false, ◌||◌, Option, None, Some, Result, Ok, Err}
use Rattle.spec_document.specs.Forest.{Plain, Document}
use Rattle.spec_document.specs.Order.{entries_of}
use Rattle.spec_node.specs.declared.node_ref.NodeRef.{NodeRef}
use Rattle.spec_node.specs.declared.node_ref.Part.TheVariants as part
use Rattle.spec_node.specs.Naming.{ref_of, same_ref}
use Rattle.spec_stylesheet.specs.Place.{Place}
use Rattle.spec_stylesheet.specs.Sheet.{Sheet}
use Rattle.spec_structure.specs.Modules.{Modules}
use Rattle.spec_compile.specs.Sheet as compile
use Rattle.spec_compile.specs.Sheet.{IsSheet}
use Rattle.spec_seen.specs.Seen.{seen}
use Rattle.spec_run.specs.Plan.{Refused, Target}
use Rattle.spec_run.specs.Going.{Event, Asked, Saw, Entered, Held}
use Rattle.spec_run.specs.Hold.{GoesOn}
use Rattle.spec_run.specs.Trail.{Kept}
use Rattle.spec_run.specs.Meaning.{Setting, run_of}
use Rattle.spec_run.specs.World.{globals_of, truth_by}
use Rattle.spec_run.specs.Documents.{Documents, Parameters, main_name}
use Rattle.spec_items.specs.Liftable.{with_items}
use Rattle.spec_reuse.specs.Among.{IsIn}
use Rattle.spec_reuse.specs.Instantiation.{Instantiation, own_of, instantiations}
use Rattle.spec_reuse.specs.Ledger.{AreCounted, HasLike, IsFound}
use Rattle.spec_cost.specs.Marking.{AddsStyle, Known, KnowsOf, Mark, and_marks, are_marked, by_own_reads, marked_among}
use Rattle.spec_cost.specs.Naming.{IsNamed}
use Rattle.spec_cost.specs.Numbers.{NumberedDocuments}
use Rattle.spec_cost.specs.Past.{Past}

-- ---- The run

-- of a stylesheet whose elements are called so on a source whose nodes are called by their numbers
abbrev pub setting_called : (Place → NodeRef) → Sheet → Parameters → Document ℕ → Setting NodeRef
setting_called called sheet parameters source = record {
  ask = truth_by ref_of same_ref called sheet parameters (entries_of source);
  same = same_ref;
  root = record { node = record { number = source.root }; part = part.Itself };
  globals = globals_of called sheet.units;
}

-- each item of an xsl:for-each is an instantiation of its own, where the stylesheet is one whose contents may be lifted; and the run sees the source
-- without the texts that are stripped
abbrev pub run_setting : (Place → NodeRef) → Sheet → Parameters → Document ℕ → Setting NodeRef
run_setting called sheet parameters source =
    setting_called called (with_items sheet) parameters (seen (with_items sheet).space_rules.rules source)

-- ---- What it costs

-- no more can be told
abbrev pub most_told : ℕ
most_told = 2 ^ 64 - 1

-- for each instantiation of the run that comes to its end one of these is a record that would be taken; and each is of the unit and the node of one
-- that the run has
pub record KeepsRun (s : Setting NodeRef) (records : List (Kept NodeRef)) : Type 0 where
  pub all : (i : Instantiation NodeRef) → IsIn i (instantiations s) → GoesOn (own_of s i).ending → IsFound s records i
  pub only : (kept : Kept NodeRef) → IsIn kept records → HasLike (instantiations s) kept.call

-- where the run is refused, what was kept before stays
abbrev pub KeepsBy : Option Refused → Setting NodeRef → (before after : List (Kept NodeRef)) → Type 0
KeepsBy None s before after = KeepsRun s after
KeepsBy (Some why) s before after = after ≡ before

-- none of these records is of this unit and this node
abbrev pub IsUnrecorded : List (Kept NodeRef) → Target NodeRef → NodeRef → Type 0
IsUnrecorded records unit node = (kept : Kept NodeRef) → IsIn kept records → kept.call.target ≡ unit → kept.call.node ≡ node → ⊥

-- where the run is refused, what changed is told of still
abbrev pub MarksBy : Option Refused → (marks left : List Mark) → Type 0
MarksBy None marks left = left ≡ []
MarksBy (Some why) marks left = left ≡ marks

-- None of the questions among what was done is marked, of those that are asked of the source, of a parameter, or for a unit. Choices and keys are left
-- out: their answers may be found to be the same by what was asked for them
abbrev pub NoneMarked : List Mark → List (Event NodeRef) → Type 0
NoneMarked marks [] = Unit {0}
NoneMarked marks (Asked question answer ∷ es) = (by_own_reads question ≡ false → are_marked marks question ≡ false) × NoneMarked marks es
NoneMarked marks (Saw wanted depth place supplied ∷ es) = NoneMarked marks es
NoneMarked marks (Entered call depth ∷ es) = NoneMarked marks es
NoneMarked marks (Held first contents ∷ es) = NoneMarked marks es

-- and of each of these records
abbrev pub NoneMarkedAmong : List Mark → List (Kept NodeRef) → Type 0
NoneMarkedAmong marks [] = Unit {0}
NoneMarkedAmong marks (kept ∷ records) = NoneMarked marks kept.trace × NoneMarkedAmong marks records

-- So many instantiations of the run are counted, or the most that can be told: none for which one of the records before would be taken, of one call
-- that comes to its end one; and one of each unit and node that no record is of. No more questions are asked again than these changes mark in the
-- records, each once; and where there is a result and nothing is run, one at least, if they mark one that is asked of the source, of a parameter, or
-- for a unit. And this is kept
pub record IsCost (s : Setting NodeRef) (before : List (Kept NodeRef)) (marks : List Mark) (ran asked : ℕ) (after : List (Kept NodeRef))
    (left : List Mark) : Type 0 where
  pub list : List (Instantiation NodeRef)
  pub counted : AreCounted s before (IsUnrecorded before) list
  pub told : ran ≡ min (length list) most_told
  pub again : asked ≤ marked_among marks before
  pub least : (run_of s).refusal ≡ None → ran ≡ 0 → asked ≡ 0 → NoneMarkedAmong marks before
  pub keeps : KeepsBy (run_of s).refusal s before after
  pub leaves : MarksBy (run_of s).refusal marks left

-- nothing is run, nothing is asked, and what was kept stays
pub record IsFree (before : List (Kept NodeRef)) (marks : List Mark) (ran asked : ℕ) (after : List (Kept NodeRef)) (left : List Mark) : Type 0 where
  pub told : ran ≡ 0
  pub again : asked ≡ 0
  pub keeps : after ≡ before
  pub leaves : left ≡ marks

-- ---- What a change costs

-- the modules are this stylesheet, or have this refusal
abbrev pub CostsBy : (Place → NodeRef) → Parameters → Document ℕ → Result Sheet compile.Refusal → (before : List (Kept NodeRef)) → List Mark
    → (ran asked : ℕ) → (after : List (Kept NodeRef)) → (left : List Mark) → Type 0
CostsBy called parameters source (Err why) before marks ran asked after left = IsFree before marks ran asked after left
CostsBy called parameters source (Ok sheet) before marks ran asked after left =
    IsCost (run_setting called sheet parameters source) before marks ran asked after left

-- where there is a principal module and a source
abbrev pub CostsOn : (Place → NodeRef) → Modules → Parameters → Option Plain → Option (Document ℕ) → (before : List (Kept NodeRef)) → List Mark
    → (ran asked : ℕ) → (after : List (Kept NodeRef)) → (left : List Mark) → Type 0
CostsOn called modules parameters None source before marks ran asked after left = IsFree before marks ran asked after left
CostsOn called modules parameters (Some main) None before marks ran asked after left = IsFree before marks ran asked after left
CostsOn called modules parameters (Some main) (Some source) before marks ran asked after left =
    (result : Result Sheet compile.Refusal) × IsSheet modules main_name result
    × CostsBy called parameters source result before marks ran asked after left

-- what a run goes by: what was told before, this, and where a change is one of modules what that tells
abbrev pub MarksFor : (is_of_module : Bool) → Modules → Known → (told all : List Mark) → Type 0
MarksFor false modules known told all = all ≡ told
MarksFor true modules known told all = (style : List Mark) × AddsStyle modules (modules main_name) known style × (all ≡ and_marks told style)

-- A change that is present at once, or a commit, by which these documents are present, and these are their numbers. Where it is one of a module, or a
-- change of the batch was, units are called by the numbers that the modules have then, and else as before. These marks are told of it
pub record Pays (documents : Documents) (numbered : NumberedDocuments) (is_of_module : Bool) (marks : List Mark) (before after : Past) : Type 0 where
  pub present : after.present ≡ numbered
  pub edited : after.edited ≡ numbered
  pub closed : after.is_edited ≡ false
  pub called : (before.is_edited || is_of_module) ≡ false → after.called ≡ before.called
  pub named : (before.is_edited || is_of_module) ≡ true → IsNamed after.called documents.modules numbered.modules
  pub all : List Mark
  pub told : MarksFor (before.is_edited || is_of_module) documents.modules before.known (and_marks before.edited_marks marks) all
  pub costs : CostsOn after.called documents.modules documents.parameters (documents.modules main_name) numbered.source before.records all after.ran after.asked
      after.records after.marks
  pub same : after.edited_marks ≡ after.marks
  pub known : KnowsOf documents.modules (documents.modules main_name) before.known after.known

-- a change in a batch, which makes this of the numbered documents. Nothing is run
abbrev pub with_pending : NumberedDocuments → (is_of_module : Bool) → List Mark → Past → Past
with_pending numbered is_of_module marks before =
    record before { edited = numbered; is_edited = before.is_edited || is_of_module; edited_marks = and_marks before.edited_marks marks }

-- a batch that is dropped
abbrev pub without_pending : Past → Past
without_pending before = record before { edited = before.present; is_edited = false; edited_marks = before.marks }
