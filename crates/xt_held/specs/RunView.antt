-- What a run of what modules are is told, and what is known of what the last run kept. None of this bears on what is held of an outcome: it tells which
-- questions need not be asked again.
--
-- All of it is said of the answers that questions had in the world of the last run that ended with a result. They are stored nowhere. What changed since then
-- tells where the world of now answers the same.
use Rattle.std.specs.Prelude.{ℕ, ◌≡◌, true, List, [], Option, None, Some, IfSome}
use Rattle.spec_document.specs.Forest.{Document, IsNormal}
use Rattle.spec_edit.specs.Valid.{IsValid}
use Rattle.spec_seen.specs.Seen.{seen}
use Rattle.spec_stylesheet.specs.Sheet as plain
use Rattle.spec_run.specs.Documents.{Parameters}
use Rattle.spec_run.specs.Outcome as spec
use Rattle.spec_change.specs.Change.{IsEdit}
use Rattle.spec_move.specs.Changed.{IsMove}
use Rattle.spec_touch.specs.Marks.{WorldChange}
use Rattle.xt_edit.specs.View.{edit_of}
use Rattle.xt_edit.specs.declared.edit.Edit.{Edit}
use Rattle.xt_syntax.specs.SheetView.{space_rules_of}
use Rattle.xt_syntax.specs.declared.space_rules.SpaceRules.{SpaceRules}
use Rattle.xt_record.specs.Sure.{AreAnswered}
use Rattle.xt_record.specs.declared.pool.Pool.{Pool}
pub use Rattle.xt_spared.specs.View.{Ask, Agrees}
use Rattle.xt_spared.specs.View.{Spares}
use Rattle.xt_spared.specs.declared.spared.Spared.{Spared}
use Rattle.xt_own.specs.View.{OwnDecides}
use Rattle.xt_own.specs.declared.own_reads.OwnReads.{OwnReads}
use Rattle.xt_world.specs.Answering.{AnswersAs}
use Rattle.xt_world.specs.View.{truth_in}
use Rattle.xt_world.specs.declared.stylesheet.Stylesheet as world
use Rattle.xt_held.specs.OutcomeView.{is_done}
use Rattle.xt_touch.specs.View.{keep_sheet, since_of}
use Rattle.xt_held.specs.declared.last_run.Kept.{Kept}
use Rattle.xt_held.specs.declared.last_run.LastRun.{LastRun}
use Rattle.xt_held.specs.declared.origin.Origin.{Origin}
use Rattle.xt_held.specs.declared.origin.Origin.TheVariants.{Given, Edited, Moved}
use Rattle.xt_held.specs.declared.stylesheet.Compiled.{Compiled}
use Rattle.xt_held.specs.declared.stylesheet.Compiled.TheVariants.{Stylesheet, Refused}

-- what the world of this stylesheet answers with these parameters, of this source as these rules for white space let it be seen
abbrev pub truth_seen : world.Stylesheet → SpaceRules → Parameters → Document ℕ → Ask
truth_seen held rules parameters source = truth_in held parameters (seen (space_rules_of rules).rules source)

-- modules that are this, with these parameters and this source, are run, and this is so of the stylesheet and of the answers that the run is given
abbrev pub IsRun : (world.Stylesheet → Ask → Type 0) → Option Compiled → Parameters → Option (Document ℕ) → Type 0
IsRun P None parameters source = ⊥
IsRun P (Some (Refused why)) parameters source = ⊥
IsRun P (Some (Stylesheet held rules method)) parameters None = ⊥
IsRun P (Some (Stylesheet held rules method)) parameters (Some source) = P held (truth_seen held rules parameters source)

-- this is so of the answers where they are run
abbrev pub IfRun : (Ask → Type 0) → Option Compiled → Parameters → Option (Document ℕ) → Type 0
IfRun P None parameters source = Unit {0}
IfRun P (Some (Refused why)) parameters source = Unit {0}
IfRun P (Some (Stylesheet held rules method)) parameters None = Unit {0}
IfRun P (Some (Stylesheet held rules method)) parameters (Some source) = P (truth_seen held rules parameters source)

-- this is so of the stylesheet where they are one
abbrev pub IfSheet : (world.Stylesheet → Type 0) → Option Compiled → Type 0
IfSheet P None = Unit {0}
IfSheet P (Some (Refused why)) = Unit {0}
IfSheet P (Some (Stylesheet held rules method)) = P held

-- ---- What the last run kept

-- with these answers the questions of all that a run kept have theirs, and own reads decide what they were made for
pub record HoldsWith (held : world.Stylesheet) (ask : Ask) (kept : Kept) : Type 0 where
  pub answered : AreAnswered ask kept.records
  pub own : OwnDecides held ask kept.own

-- modules that are this are run, and all that was kept holds in that run
abbrev pub KeptHolds : Option Compiled → Parameters → Option (Document ℕ) → Kept → Type 0
KeptHolds compiled parameters source kept = IsRun (λ held ask. HoldsWith held ask kept) compiled parameters source

-- where they are run, a question that none of these changes marks is answered as it was; and where none of the changes is one of modules, own reads decide in
-- all worlds of the stylesheet that answer them as they were answered
pub record Agreed (was : Ask) (reads : OwnReads) (compiled : Option Compiled) (parameters : Parameters) (source : Option (Document ℕ)) (changes : List WorldChange)
    : Type 0 where
  pub agrees : IfRun (λ ask. Agrees was ask changes) compiled parameters source
  pub own : keep_sheet changes ≡ true → IfSheet (λ held. OwnDecides held was reads) compiled

-- the questions of what was kept had their answers once, and since then these changes came
pub record KeptSpared (compiled : Option Compiled) (parameters : Parameters) (source : Option (Document ℕ)) (kept : Kept) (changes : List WorldChange)
    : Type 0 where
  pub was : Ask
  pub answered : AreAnswered was kept.records
  pub agreed : Agreed was kept.own compiled parameters source changes

-- the same of a run of this stylesheet with these answers
pub record SparedIn (held : world.Stylesheet) (ask : Ask) (kept : Kept) (changes : List WorldChange) : Type 0 where
  pub was : Ask
  pub answered : AreAnswered was kept.records
  pub agrees : Agrees was ask changes
  pub own : keep_sheet changes ≡ true → OwnDecides held was kept.own

-- the questions of these records had their answers once, and those that need not be asked again are answered so in a run with these answers
pub record SparesRecords (ask : Ask) (records : Pool) (spared : Spared) : Type 0 where
  pub was : Ask
  pub answered : AreAnswered was records
  pub spares : Spares was ask spared

-- what modules are where they are a stylesheet, and else what they were when they were one
abbrev pub last_known : (compiled before : Option Compiled) → Option Compiled
last_known None before = before
last_known (Some (Refused why)) before = before
last_known (Some (Stylesheet held rules method)) before = Some (Stylesheet held rules method)

-- it answers as some stylesheet does, where it is one
abbrev pub AnswersAsSome : Option Compiled → Type 0
AnswersAsSome None = Unit {0}
AnswersAsSome (Some (Refused why)) = Unit {0}
AnswersAsSome (Some (Stylesheet held rules method)) = (sheet : plain.Sheet) × AnswersAs held sheet

-- it has no fault, only elements have something below them, no text is empty, and no two stand side by side
pub record IsFaultless (document : Document ℕ) : Type 0 where
  pub valid : IsValid document.nodes
  pub normal : IsNormal document.nodes

-- what the last run that ended with a result left serves a run of this
pub record LastServes (compiled : Option Compiled) (parameters : Parameters) (source : Option (Document ℕ)) (last : LastRun) : Type 0 where
  -- the questions of what it kept had their answers then, and those that no change since then marks have them still, were the stylesheet run that was there last
  pub spared : KeptSpared (last_known compiled last.before) parameters source last.kept (since_of last.since)
  pub answers : AnswersAsSome (last_known compiled last.before)
  -- what an edit of the source changes can be told
  pub faultless : IfSome source IsFaultless

-- what is known of it where this is the outcome
pub record LastHolds (outcome : spec.Outcome) (compiled : Option Compiled) (parameters : Parameters) (source : Option (Document ℕ)) (last : LastRun) : Type 0 where
  -- where there is a result, it is that of this run, and all that it kept holds in it
  pub done : is_done outcome ≡ true → KeptHolds compiled parameters source last.kept
  pub serves : LastServes compiled parameters source last

-- ---- What changes

-- no rule for white space is there, so that all of a source is seen
abbrev pub SeesAll : SpaceRules → Type 0
SeesAll rules = (space_rules_of rules).rules ≡ []

-- both are stylesheets, with the same rules for white space
abbrev pub SeeAlike : Option Compiled → Option Compiled → Type 0
SeeAlike (Some (Stylesheet held rules method)) (Some (Stylesheet other others another)) = space_rules_of others ≡ space_rules_of rules
SeeAlike _ _ = ⊥

-- where there is a document, this edit or this move makes the new one of it
abbrev pub IsMadeByEdit : Edit → Option (Document ℕ) → Document ℕ → Type 0
IsMadeByEdit edit None new = Unit {0}
IsMadeByEdit edit (Some old) new = IsEdit (edit_of edit) old new

abbrev pub IsMadeByMove : (path other : List ℕ) → Option (Document ℕ) → Document ℕ → Type 0
IsMadeByMove path other None new = Unit {0}
IsMadeByMove path other (Some old) new = IsMove path other old new

abbrev pub IsMadeBy : Origin → Option (Document ℕ) → Document ℕ → Type 0
IsMadeBy Given old new = Unit {0}
IsMadeBy (Edited edit) old new = IsMadeByEdit edit.now old new
IsMadeBy (Moved path other) old new = IsMadeByMove path.now other.now old new

-- What was answered is so after these changes, where it was after those before: the source, the parameters or the modules have changed, and of the modules it
-- counts what they were last when they were a stylesheet
abbrev pub StaysSpared : (old new : Option Compiled) → (before after : Parameters) → (was is : Option (Document ℕ)) → (changes others : List WorldChange)
    → Type 0
StaysSpared old new before after was is changes others =
    (answered : Ask) (own : OwnReads) → AnswersAsSome old → AnswersAsSome new → Agreed answered own old before was changes
    → Agreed answered own new after is others
