-- What changes mark, by what is told of them, and what a run asks again by that.
--     AreToldBy     changes mark no more than what is told of them, and what is told of the source and of parameters alone, and a unit that records ask for
--                   where a unit is told
--     source_marks  what is told of a source that is given, edited, or in which a node was moved
--     AsksLeast     what it says of changes that nothing was run and nothing asked again
--     IsAskedBy     what a run asked again, and what is told of after it
--     Tells         what is told of a change that is ready
use Rattle.std.specs.Prelude.{ℕ, ◌≡◌, ◌⊎◌, ◌≤◌, true, false, List, [], ◌∷◌, length, map, ◌||◌, Option, None, Some, IfSome}
use Rattle.spec_document.specs.Forest.{Document}
use Rattle.spec_meaning.specs.Question.{Question, Unit as UnitOf}
use Rattle.spec_node.specs.declared.node_ref.NodeRef.{NodeRef}
use Rattle.spec_cost.specs.Marking.{Known, Mark, Anything, and_marks, are_marked, by_modules, edit_marks, marked_among, marks_between, move_marks}
use Rattle.spec_cost.specs.Numbers.{NumberedDocuments}
use Rattle.spec_cost.specs.Paying as paying
use Rattle.spec_cost.specs.Paying.{MarksFor}
use Rattle.spec_touch.specs.Marks.{WorldChange, any_marks}
use Rattle.xt_edit.specs.View.{edit_of}
use Rattle.xt_syntax.specs.SheetView.{space_rules_of}
use Rattle.xt_touch.specs.View.{since_of}
use Rattle.xt_record.specs.Asked.{NoUnitIsAsked, NoneMarkedAmong, UnitIsAsked}
use Rattle.xt_record.specs.declared.pool.Pool.{Pool}
use Rattle.xt_driver.specs.Counted.{kept_at}
use Rattle.xt_held.specs.RunView.{last_known}
use Rattle.xt_held.specs.View.{is_edited_by, is_of_module, next_documents}
use Rattle.xt_held.specs.declared.counts.Counts.{Counts}
use Rattle.xt_held.specs.declared.held.Held.{Held}
use Rattle.xt_held.specs.declared.last_run.Kept.{Kept}
use Rattle.xt_held.specs.declared.name.DocName.{DocName}
use Rattle.xt_held.specs.declared.name.DocName.TheVariants as names
use Rattle.xt_held.specs.declared.origin.Origin.{Origin}
use Rattle.xt_held.specs.declared.origin.Origin.TheVariants.{Given, Edited, Moved}
use Rattle.xt_held.specs.declared.outcome.Came.{Came}
use Rattle.xt_held.specs.declared.ready.Coming.{Coming}
use Rattle.xt_held.specs.declared.ready.Coming.TheVariants.{Told, Pending}
use Rattle.xt_held.specs.declared.ready.Ready.{Ready}
use Rattle.xt_held.specs.declared.stylesheet.Compiled.{Compiled}
use Rattle.xt_held.specs.declared.stylesheet.Compiled.TheVariants.{Stylesheet, Refused}

-- ---- What changes mark

-- these changes mark any question
abbrev pub MarkAll : List WorldChange → Type 0
MarkAll changes = (question : Question NodeRef) → any_marks changes question ≡ true

-- these changes mark a unit that the records ask for, if they ask for any
abbrev pub MarkAUnit : Pool → List WorldChange → Type 0
MarkAUnit records changes =
    NoUnitIsAsked records.records.items
    ⊎ ((element : NodeRef) × UnitIsAsked element records.records.items × (any_marks changes (UnitOf element) ≡ true))

-- as many are remembered as are told of, and each question that is asked of the source or of a parameter alone is marked by them if it is by these; and
-- where these mark any unit, they mark one that the records ask for
pub record AreHeeded (records : Pool) (marks : List Mark) (changes : List WorldChange) : Type 0 where
  pub count : length changes ≡ length marks
  pub marked : (question : Question NodeRef) → by_modules question ≡ false → are_marked marks question ≡ true → any_marks changes question ≡ true
  pub units : (element : NodeRef) → are_marked marks (UnitOf element) ≡ true → MarkAUnit records changes

-- each question that one of these changes marks is marked by what is told of them; and where that leaves a question unmarked, no more are remembered than are
-- told of. And they mark what is told of the source and of parameters, and one of the units that these records ask for, or anything
pub record AreToldBy (records : Pool) (marks : List Mark) (changes : List WorldChange) : Type 0 where
  pub marked : (question : Question NodeRef) → any_marks changes question ≡ true → are_marked marks question ≡ true
  pub most : (question : Question NodeRef) → are_marked marks question ≡ false → length changes ≤ length marks
  pub heeded : MarkAll changes ⊎ AreHeeded records marks changes

-- the rules for white space of modules that are this, where they are a stylesheet
abbrev pub known_of : Option Compiled → Known
known_of None = None
known_of (Some (Refused why)) = None
known_of (Some (Stylesheet held rules method)) = Some (space_rules_of rules).rules

-- those of the last stylesheet that there was
abbrev pub known_in : Held → Known
known_in held = known_of (last_known held.compiled held.last.before)

-- ---- What is told of the source

abbrev pub source_marks : Known → Origin → (before : Option (Document ℕ)) → (after : Document ℕ) → List Mark
source_marks known Given before after = Anything ∷ []
source_marks known (Edited edit) None after = Anything ∷ []
source_marks known (Edited edit) (Some before) after = edit_marks known (edit_of edit.now) before after ∷ []
source_marks known (Moved path other) None after = Anything ∷ []
source_marks known (Moved path other) (Some before) after = move_marks known path.now other.now before after ∷ []

-- what is told of the document of this name, which becomes this
abbrev pub document_marks : DocName → Origin → Held → Document ℕ → List Mark
document_marks names.Source origin held document = source_marks (known_in held) origin held.source document
document_marks (names.Module name) origin held document = []

-- what is told of a change of the document of this name: of a module nothing by itself
abbrev pub marks_as : DocName → (Document ℕ → Document ℕ → Mark) → (before after : NumberedDocuments) → List Mark
marks_as names.Source mark before after = marks_between mark before.source after.source
marks_as (names.Module name) mark before after = []

-- ---- What is asked again

-- after a result nothing is told any more
abbrev pub left_of : Option Kept → List Mark → List Mark
left_of None marks = marks
left_of (Some kept) marks = []

-- the records of a run that ended with a result take the place of those
abbrev pub records_after : Option Kept → Pool → Pool
records_after None records = records
records_after (Some kept) records = kept.records

-- where nothing was run and nothing asked again, these changes mark no question of these records but choices and keys
abbrev pub AsksLeast : List WorldChange → Pool → Counts → Type 0
AsksLeast changes records counts = counts.ran ≡ 0 → counts.asked ≡ 0 → NoneMarkedAmong changes records.records.items

-- the same by what is told of them
abbrev pub IsLeastOf : List Mark → Pool → Counts → Type 0
IsLeastOf marks records counts = counts.ran ≡ 0 → counts.asked ≡ 0 → paying.NoneMarkedAmong marks (map kept_at records.records.items)

-- no more questions of these records were asked again than are marked, and no less than is told where there is a result; and what changed since the last
-- result is told of still
pub record IsAskedBy (marks : List Mark) (records : Pool) (came : Came) : Type 0 where
  pub again : came.counts.asked ≤ marked_among marks (map kept_at records.records.items)
  pub least : IfSome came.kept (λ kept. IsLeastOf marks records came.counts)
  pub left : AreToldBy (records_after came.kept records) (left_of came.kept marks) (since_of came.since)

-- ---- What a change tells

-- by what was told before and this, and where a module was changed by what the modules are then
pub record IsAskedFor (told : List Mark) (came : Came) (ready : Ready) (held : Held) : Type 0 where
  pub all : List Mark
  pub by : MarksFor (is_edited_by held.batch || is_of_module ready.change) (next_documents ready held).modules (known_in held) told all
  pub asked : IsAskedBy all held.last.kept.records came

abbrev pub TellsBy : Coming → (told : List Mark) → Ready → Held → Type 0
TellsBy (Told came) told ready held = IsAskedFor told came ready held
TellsBy (Pending since) told ready held = AreToldBy held.last.kept.records told (since_of since)

-- these marks are told of it
pub record Tells (marks : List Mark) (held : Held) (ready : Ready) : Type 0 where
  pub tells : (told : List Mark) → AreToldBy held.last.kept.records told (since_of held.last.since) → TellsBy ready.coming (and_marks told marks) ready held
