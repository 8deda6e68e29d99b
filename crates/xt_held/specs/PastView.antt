-- What is held stands for what a session remembers besides the documents (`spec_cost`): what that becomes where a change is adopted.
use Rattle.std.specs.Prelude.{ℕ, ◌≡◌, Bool, true, false, List, map, Option, None, Some, Result, Ok, Err}
use Rattle.spec_document.specs.Fault.{Fault}
use Rattle.spec_document.specs.Forest.{Document}
use Rattle.spec_edit.specs.Edit.{Edited}
use Rattle.spec_run.specs.Outcome as spec
use Rattle.spec_cost.specs.Marking.{Mark}
use Rattle.spec_cost.specs.Numbers.{NumberedDocuments, edited_module, edited_source, with_module, with_source}
use Rattle.spec_cost.specs.Past.{Past}
use Rattle.spec_cost.specs.Paying.{Pays, with_pending, without_pending}
use Rattle.xt_edit.specs.declared.fault.EditFault.{EditFault}
use Rattle.xt_driver.specs.Counted.{kept_at}
use Rattle.xt_touch.specs.View.{since_of}
use Rattle.xt_held.specs.Called.{IsCalledIn}
use Rattle.xt_held.specs.Marked.{AreToldBy, known_in}
pub use Rattle.xt_held.specs.View.{is_edited_by, is_of_module, numbers_of}
use Rattle.xt_held.specs.View.{counts_in, last_in, next_numbers, next_present, present_basis, present_of, told_of}
use Rattle.xt_held.specs.declared.held.Held.{Held}
use Rattle.xt_held.specs.declared.name.DocName.{DocName}
use Rattle.xt_held.specs.declared.name.DocName.TheVariants as names
use Rattle.xt_held.specs.declared.ready.Ready.{Ready}

-- ---- What is remembered

-- the documents that are present, with the numbers of their nodes
abbrev pub present_numbers : Held → NumberedDocuments
present_numbers held = record { source = (present_basis held).source; modules = (present_basis held).modules }

-- what is held is this past: the numbered documents, what the elements of the stylesheet are called, what the last run that ended with a result kept,
-- what is told of all that changed since then, the rules for white space that are known of, and how many instantiations the last change has run and how
-- many questions it has asked again
pub record IsPast (past : Past) (held : Held) : Type 0 where
  pub present : past.present ≡ present_numbers held
  pub edited : past.edited ≡ numbers_of held
  pub is_edited : past.is_edited ≡ is_edited_by held.batch
  pub called : IsCalledIn past.called (present_of held).modules held.compiled
  pub records : past.records ≡ map kept_at (last_in held).kept.records.records.items
  pub marks : AreToldBy (present_basis held).last.kept.records past.marks (since_of (present_basis held).last.since)
  pub edited_marks : AreToldBy (last_in held).kept.records past.edited_marks (since_of (last_in held).since)
  pub known : past.known ≡ known_in held
  pub ran : past.ran ≡ (counts_in held).ran
  pub asked : past.asked ≡ (counts_in held).asked

-- ---- What a change makes of it

-- this is the document of this name from then on
abbrev pub given_as : DocName → Document ℕ → NumberedDocuments → NumberedDocuments
given_as names.Source document = with_source document
given_as (names.Module name) document = with_module name.now (Some document)

-- the document of this name is edited
abbrev pub edited_as : DocName → (Document ℕ → Result (Edited ℕ) Fault) → NumberedDocuments → NumberedDocuments
edited_as names.Source edit = edited_source edit
edited_as (names.Module name) edit = edited_module name.now edit

-- whether a document of this name is a module of the stylesheet
abbrev pub is_module : DocName → Bool
is_module names.Source = false
is_module (names.Module name) = true

-- with it these will be the numbered documents; and it is a change of a module, or none
pub record Brings (numbered : NumberedDocuments) (is_module_changed : Bool) (held : Held) (ready : Ready) : Type 0 where
  pub numbers : next_numbers ready.change held ≡ numbered
  pub kind : is_of_module ready.change ≡ is_module_changed

-- what is ready, of which these marks are told, makes the one past the other: what was run is paid, and in a batch nothing is
abbrev pub PaysBy : Option spec.Outcome → List Mark → Ready → Held → (before after : Past) → Type 0
PaysBy (Some outcome) marks ready held before after =
    Pays (next_present ready held) (next_numbers ready.change held) (is_of_module ready.change) marks before after
PaysBy None marks ready held before after = after ≡ with_pending (next_numbers ready.change held) (is_of_module ready.change) marks before

abbrev pub PaysFor : List Mark → Ready → Held → (before after : Past) → Type 0
PaysFor marks ready held before after = PaysBy (told_of ready) marks ready held before after

-- a batch is dropped, where one is open
abbrev pub past_left : Result (Unit {0}) EditFault → Past → Past
past_left (Ok done) past = without_pending past
past_left (Err fault) past = past
