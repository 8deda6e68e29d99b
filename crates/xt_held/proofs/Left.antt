-- What a run leaves, and how a document was made.
use Rattle.std.proofs.Common.{◌≡◌, ◌≤◌, ℕ, ◌+◌, true, List, [], ◌∷◌, Option, None, Some, Result, Ok, Err, ap, refl, sym, subst, ◌∙◌}
use Rattle.std.specs.Prelude.{IfOk, IfSome, IsTrue, nat_eq, nat_lt}
use Rattle.std.specs.List.{list_all, IsDistinct}
use Rattle.std.specs.Option.{is_some, option_copied, unwrap_or}
use Rattle.std.specs.declared.alloc.Global.{Global}
use Rattle.std.specs.declared.rc.Rc.{Rc}
use Rattle.spec_document.specs.Document.{document_of}
use Rattle.spec_document.specs.Forest.{Document, IsNormal, height, labels, size}
use Rattle.spec_document.specs.NodeFaults.{greatest_depth}
use Rattle.spec_document.specs.Numbering.{number_limit}
use Rattle.spec_document.specs.Scope.{Scope, root_scope}
use Rattle.spec_edit.specs.Depth.{ElementsFit}
use Rattle.spec_meaning.specs.Question.{Gone}
use Rattle.spec_run.specs.Documents.{Parameters}
use Rattle.spec_edit.specs.Edit as spec
use Rattle.spec_edit.specs.Valid.{IsValid}
use Rattle.spec_change.specs.Change.{IsEdit}
use Rattle.spec_move.specs.Changed.{IsMove}
use Rattle.spec_move.specs.Move as moves
use Rattle.spec_touch.specs.Marks.{WorldChange}
use Rattle.xt_text.specs.declared.memory.Memory.{Memory}
use Rattle.xt_build.specs.View.{Builds, document_in}
use Rattle.xt_build.specs.declared.fault.BuildFault.{BuildFault}
use Rattle.xt_build.specs.declared.document.Built.{Built}
use Rattle.xt_edit.specs.View.{AreBelow, Edits, edit_of}
use Rattle.xt_edit.specs.declared.edit.Edit.{Edit}
use Rattle.xt_edit.specs.declared.edit.Edited.{Edited}
use Rattle.xt_edit.specs.declared.fault.EditFault.{EditFault}
use Rattle.xt_touch.specs.View.{since_of}
use Rattle.xt_record.specs.Grown.{values_of, AreTrees}
use Rattle.xt_record.specs.Sure.{AllHold}
use Rattle.xt_record.specs.declared.tree.Tree.{Tree}
use Rattle.xt_record.proofs.Chaining.{none_some}
use Rattle.xt_record.specs.declared.record.Record.{Record}
use Rattle.xt_held.specs.OutcomeView.{Fits, is_done, outcome_of, since_after}
use Rattle.xt_touch.specs.declared.since.Since.{Since}
use Rattle.xt_held.specs.declared.origin.Origin.{Origin}
use Rattle.xt_held.specs.declared.origin.Origin.TheVariants as origins
use Rattle.xt_held.specs.RunView.{AnswersAsSome, IsFaultless, IsMadeBy, IsMadeByEdit, IsMadeByMove, KeptHolds, KeptSpared, LastHolds, StaysSpared, last_known, truth_seen}
use Rattle.xt_held.specs.View.{HasBelow, IsFaultlessAs, before_by, left_by, numbered_document}
use Rattle.xt_held.specs.declared.held.Held.{Held}
use Rattle.xt_held.specs.declared.last_run.Kept.{Kept}
use Rattle.xt_held.specs.declared.last_run.LastRun.{LastRun}
use Rattle.xt_held.specs.declared.name.DocName.{DocName}
use Rattle.xt_held.specs.declared.name.DocName.TheVariants as names
use Rattle.xt_held.specs.declared.outcome.Came.{Came}
use Rattle.xt_held.specs.declared.stylesheet.Compiled.{Compiled}
use Rattle.xt_held.specs.declared.stylesheet.Compiled.TheVariants.{Stylesheet, Refused}
use denote.Ref.{Bor}

-- ---- What is told of what is known last, where modules are run

pub run_spared : (compiled before : Option Compiled) (parameters : Parameters) (source : Option (Document ℕ)) (kept : Kept) (changes : List WorldChange)
    → KeptSpared (last_known compiled before) parameters source kept changes → KeptSpared compiled parameters source kept changes
run_spared None before parameters source kept changes h =
    record { was = h.was; answered = h.answered; agreed = record { agrees = tt; own = λ keeps. tt } }
run_spared (Some (Refused why)) before parameters source kept changes h =
    record { was = h.was; answered = h.answered; agreed = record { agrees = tt; own = λ keeps. tt } }
run_spared (Some (Stylesheet held rules method)) before parameters source kept changes h = h

-- where no records were kept and no modules are there, all that is known of what was kept is so
pub nothing_kept : (parameters : Parameters) (source : Option (Document ℕ)) (kept : Kept) (changes : List WorldChange) → kept.records.records.items ≡ []
    → kept.records.trees.items ≡ [] → KeptSpared None parameters source kept changes
nothing_kept parameters source kept changes none no_trees = record {
  was = λ question. Gone;
  answered = record {
    hold = subst (λ (rs : List (Rc Record Global)). AllHold (λ question. Gone) rs) (sym none) tt;
    trees = subst (λ (ts : List Tree). AreTrees (values_of kept.records.records.items) ts) (sym no_trees)
        (λ turn t w here whole. absurd (none_some here));
  };
  agreed = record { agrees = tt; own = λ keeps. tt };
}

-- what a change leaves of what is answered is so of what was kept
pub kept_stays : (old new : Option Compiled) (before after : Parameters) (was is : Option (Document ℕ)) (changes others : List WorldChange)
    → StaysSpared old new before after was is changes others → (kept : Kept) → AnswersAsSome old → AnswersAsSome new
    → KeptSpared old before was kept changes → KeptSpared new after is kept others
kept_stays old new before after was is changes others stays kept answers other h =
    record { was = h.was; answered = h.answered; agreed = stays h.was kept.own answers other h.agreed }

-- what they were before is told by what they were until now
pub known_before : (compiled was before : Option Compiled) → last_known compiled (before_by compiled was before) ≡ last_known compiled (last_known was before)
known_before None was before = refl
known_before (Some (Refused why)) was before = refl
known_before (Some (Stylesheet stylesheet rules method)) was before = refl

pub known_answers : (compiled before : Option Compiled) → AnswersAsSome compiled → AnswersAsSome before → AnswersAsSome (last_known compiled before)
known_answers None before h g = g
known_answers (Some (Refused why)) before h g = g
known_answers (Some (Stylesheet held rules method)) before h g = h

-- ---- What is adopted

-- where there is a result, what the run kept is what the last one did from then on
adopted_last : (came : Came) (last : Kept) (P : Kept → Type 0) → Fits came → IfSome came.kept P → is_done (outcome_of came.outcome) ≡ true
    → P (unwrap_or came.kept last)
adopted_last came last P fits kept done = by came.kept (fits.kept ∙ done) kept
  where
    by : (kept : Option Kept) → is_some kept ≡ true → IfSome kept P → P (unwrap_or kept last)
    by None none h = absurd (cc)
    by (Some new) some h = h

run_held : (compiled before : Option Compiled) (parameters : Parameters) (source : Option (Document ℕ)) (kept : Kept)
    → KeptHolds compiled parameters source kept → KeptSpared (last_known compiled before) parameters source kept []
run_held None before parameters source kept h = absurd h
run_held (Some (Refused why)) before parameters source kept h = absurd h
run_held (Some (Stylesheet held rules method)) before parameters None kept h = absurd h
run_held (Some (Stylesheet held rules method)) before parameters (Some source) kept h = record {
  was = truth_seen held rules parameters source;
  answered = h.answered;
  agreed = record { agrees = λ q unmarked. refl; own = λ keeps. h.own };
}

module _ (compiled before : Option Compiled) (parameters : Parameters) (source : Option (Document ℕ)) (last : LastRun) (changes : List WorldChange) where
  left_spared : (kept : Option Kept) (since : List WorldChange) → IfSome kept (KeptHolds compiled parameters source) → since ≡ since_after kept changes
      → KeptSpared (last_known compiled before) parameters source last.kept changes
      → KeptSpared (last_known compiled before) parameters source (unwrap_or kept last.kept) since
  left_spared None since h e spared =
      subst (λ (cs : List WorldChange). KeptSpared (last_known compiled before) parameters source last.kept cs) (sym e) spared
  left_spared (Some new) since h e spared =
      subst (λ (cs : List WorldChange). KeptSpared (last_known compiled before) parameters source new cs) (sym e)
      (run_held compiled before parameters source new h)

  pub last_so : (came : Came) → Fits came → IfSome came.kept (KeptHolds compiled parameters source) → since_of came.since ≡ since_after came.kept changes
      → KeptSpared (last_known compiled before) parameters source last.kept changes → AnswersAsSome (last_known compiled before) → IfSome source IsFaultless
      → LastHolds (outcome_of came.outcome) compiled parameters source (left_by came before last)
  last_so came fits kept since spared answers faultless = record {
    done = adopted_last came last.kept (KeptHolds compiled parameters source) fits kept;
    serves = record { spared = left_spared came.kept (since_of came.since) kept since spared; answers = answers; faultless = faultless };
  }

  -- what a run leaves, by what is told of it
  pub left_so : (r : Result Came Memory) → IfOk r (λ came. Fits came) → IfOk r (λ came. IfSome came.kept (KeptHolds compiled parameters source))
      → IfOk r (λ came. since_of came.since ≡ since_after came.kept changes)
      → KeptSpared (last_known compiled before) parameters source last.kept changes → AnswersAsSome (last_known compiled before) → IfSome source IsFaultless
      → IfOk r (λ came. LastHolds (outcome_of came.outcome) compiled parameters source (left_by came before last))
  left_so (Ok came) fits kept since spared answers faultless = last_so came fits kept since spared answers faultless
  left_so (Err memory) fits kept since spared answers faultless = tt

-- ---- How documents are made

-- the laws of edits and moves: what had no fault has none
abbrev pub StayValid : Type 0
StayValid = (first : ℕ) (edit : spec.Edit) (document : Document ℕ) (new : spec.Edited ℕ) → spec.edited_nodes first edit document ≡ Ok new
    → IsValid document.nodes → IsValid new.nodes

abbrev pub StayNormal : Type 0
StayNormal = (first : ℕ) (edit : spec.Edit) (document : Document ℕ) (new : spec.Edited ℕ) → spec.edited_nodes first edit document ≡ Ok new
    → IsNormal document.nodes → IsNormal new.nodes

abbrev pub MoveValid : Type 0
MoveValid = (first : ℕ) (path other : List ℕ) (document : Document ℕ) (new : spec.Edited ℕ) → moves.moved_nodes first path other document ≡ Ok new
    → IsNormal document.nodes → IsValid document.nodes → IsValid new.nodes

abbrev pub MoveNormal : Type 0
MoveNormal = (first : ℕ) (path other : List ℕ) (document : Document ℕ) (new : spec.Edited ℕ) → moves.moved_nodes first path other document ≡ Ok new
    → IsNormal document.nodes → IsNormal new.nodes

edit_faultless : StayValid → StayNormal → (edit : spec.Edit) (old new : Document ℕ) → IsEdit edit old new → IsFaultless old → IsFaultless new
edit_faultless valid normal edit old new q h =
    subst (λ (d : Document ℕ). IsFaultless d) (sym q.new_is)
    (record { valid = valid q.first edit old q.edited q.edited_is h.valid; normal = normal q.first edit old q.edited q.edited_is h.normal })

move_faultless : MoveValid → MoveNormal → (path other : List ℕ) (old new : Document ℕ) → IsMove path other old new → IsFaultless old → IsFaultless new
move_faultless valid normal path other old new q h =
    subst (λ (d : Document ℕ). IsFaultless d) (sym q.new_is)
    (record {
      valid = valid q.first path other old q.edited q.edited_is h.normal h.valid;
      normal = normal q.first path other old q.edited q.edited_is h.normal;
    })

-- what an edit that is accepted makes of a document, and what a move does
edit_made : (edit : Edit) (first : ℕ) (old : Document ℕ) → AreBelow first old → (result : Result Edited EditFault)
    → Edits old first result (spec.edited_nodes first (edit_of edit) old) → IfOk result (λ edited. IsEdit (edit_of edit) old edited.document)
edit_made edit first old below (Ok edited) h = record { first = first; below = below; edited = h.0; edited_is = h.1; new_is = h.2 }
edit_made edit first old below (Err why) h = tt

move_made : (path other : List ℕ) (first : ℕ) (old : Document ℕ) → AreBelow first old → (result : Result Edited EditFault)
    → Edits old first result (moves.moved_nodes first path other old) → IfOk result (λ edited. IsMove path other old edited.document)
move_made path other first old below (Ok edited) h = record { first = first; below = below; edited = h.0; edited_is = h.1; new_is = h.2 }
move_made path other first old below (Err why) h = tt

below_named : (first : ℕ) (name : DocName) (held : Held) → HasBelow first held → IfSome (numbered_document name held) (AreBelow first)
below_named first names.Source held h = h.source
below_named first (names.Module name) held h = h.modules name.now

-- the document that was found is that of the name
module _ (first : ℕ) (name : DocName) (held : Held) (found : Option (Bor (Document ℕ))) (old : Bor (Document ℕ))
    (copied : option_copied found ≡ numbered_document name held) (is : found ≡ Some old) where
  named : numbered_document name held ≡ Some old.now
  named = sym copied ∙ ap option_copied is

  old_below : HasBelow first held → AreBelow first old.now
  old_below below = subst (λ (o : Option (Document ℕ)). IfSome o (AreBelow first)) named (below_named first name held below)

  pub edit_is_made : (edit : Edit) → HasBelow first held → (result : Result Edited EditFault)
      → Edits old.now first result (spec.edited_nodes first (edit_of edit) old.now)
      → IfOk result (λ edited. IsMadeByEdit edit (numbered_document name held) edited.document)
  edit_is_made edit below result h =
      subst (λ (o : Option (Document ℕ)). IfOk result (λ edited. IsMadeByEdit edit o edited.document)) (sym named)
      (edit_made edit first old.now (old_below below) result h)

  pub move_is_made : (path other : List ℕ) → HasBelow first held → (result : Result Edited EditFault)
      → Edits old.now first result (moves.moved_nodes first path other old.now)
      → IfOk result (λ edited. IsMadeByMove path other (numbered_document name held) edited.document)
  move_is_made path other below result h =
      subst (λ (o : Option (Document ℕ)). IfOk result (λ edited. IsMadeByMove path other o edited.document)) (sym named)
      (move_made path other first old.now (old_below below) result h)

-- where it is the source, it has no fault
module _ (held : Held) (found : Option (Bor (Document ℕ))) (old : Bor (Document ℕ)) (is : found ≡ Some old) (faultless : IfSome held.source IsFaultless) where
  was_faultless : option_copied found ≡ held.source → IsFaultless old.now
  was_faultless copied = subst (λ (o : Option (Document ℕ)). IfSome o IsFaultless) (sym copied ∙ ap option_copied is) faultless

  pub edit_keeps_faultless : StayValid → StayNormal → (first : ℕ) (name : DocName) → option_copied found ≡ numbered_document name held → (edit : Edit)
      → HasBelow first held → (result : Result Edited EditFault) → Edits old.now first result (spec.edited_nodes first (edit_of edit) old.now)
      → IfOk result (λ edited. IsFaultlessAs name edited.document)
  edit_keeps_faultless valid normal first (names.Module name) copied edit below (Ok edited) h = tt
  edit_keeps_faultless valid normal first (names.Module name) copied edit below (Err why) h = tt
  edit_keeps_faultless valid normal first names.Source copied edit below (Err why) h = tt
  edit_keeps_faultless valid normal first names.Source copied edit below (Ok edited) h =
      edit_faultless valid normal (edit_of edit) old.now edited.document
      (edit_made edit first old.now (old_below first names.Source held found old copied is below) (Ok edited) h) (was_faultless copied)

  pub move_keeps_faultless : MoveValid → MoveNormal → (first : ℕ) (name : DocName) → option_copied found ≡ numbered_document name held
      → (path other : List ℕ) → HasBelow first held → (result : Result Edited EditFault)
      → Edits old.now first result (moves.moved_nodes first path other old.now) → IfOk result (λ edited. IsFaultlessAs name edited.document)
  move_keeps_faultless valid normal first (names.Module name) copied path other below (Ok edited) h = tt
  move_keeps_faultless valid normal first (names.Module name) copied path other below (Err why) h = tt
  move_keeps_faultless valid normal first names.Source copied path other below (Err why) h = tt
  move_keeps_faultless valid normal first names.Source copied path other below (Ok edited) h =
      move_faultless valid normal path other old.now edited.document
      (move_made path other first old.now (old_below first names.Source held found old copied is below) (Ok edited) h) (was_faultless copied)

-- ---- The source that an edit or a move is told of

pub made_by_edit : (origin : Origin) (edit : Bor Edit) (source : Option (Document ℕ)) (old new : Document ℕ) → origin ≡ origins.Edited edit → source ≡ Some old
    → IsMadeBy origin source new → IsEdit (edit_of edit.now) old new
made_by_edit origin edit source old new is there h =
    subst (λ (s : Option (Document ℕ)). IsMadeByEdit edit.now s new) there (subst (λ (o : Origin). IsMadeBy o source new) is h)

pub made_by_move : (origin : Origin) (path other : Bor (List ℕ)) (source : Option (Document ℕ)) (old new : Document ℕ) → origin ≡ origins.Moved path other
    → source ≡ Some old → IsMadeBy origin source new → IsMove path.now other.now old new
made_by_move origin path other source old new is there h =
    subst (λ (s : Option (Document ℕ)). IsMadeByMove path.now other.now s new) there (subst (λ (o : Origin). IsMadeBy o source new) is h)

pub source_faultless : (source : Option (Document ℕ)) (old : Document ℕ) → source ≡ Some old → IfSome source IsFaultless → IsFaultless old
source_faultless source old there h = subst (λ (s : Option (Document ℕ)). IfSome s IsFaultless) there h

-- what is so of what is lent is so of what is held
pub source_stays : (lent : Option (Bor Compiled)) (known : Option Compiled) → option_copied lent ≡ known → (parameters : Parameters)
    (source : Option (Document ℕ)) (old new : Document ℕ) → source ≡ Some old → (changes : List WorldChange) (r : Result Since Memory)
    → ((parameters : Parameters) → IfOk r (λ next. StaysSpared (option_copied lent) (option_copied lent) parameters parameters (Some old) (Some new) changes (since_of next)))
    → IfOk r (λ next. StaysSpared known known parameters parameters source (Some new) changes (since_of next))
source_stays lent known e parameters source old new there changes r h =
    subst (λ (s : Option (Document ℕ)). IfOk r (λ next. StaysSpared known known parameters parameters s (Some new) changes (since_of next))) (sym there)
    (subst (λ (o : Option Compiled). IfOk r (λ next. StaysSpared o o parameters parameters (Some old) (Some new) changes (since_of next))) e (h parameters))

-- ---- A document that is read

abbrev pub BeginWell : Type 0
BeginWell = (first : ℕ) (body : List (List ℕ)) (document : Document ℕ) → document_of root_scope first body ≡ Ok document
    → IsValid document.nodes × IsNormal document.nodes × (height document.nodes ≤ greatest_depth + 1) × ElementsFit 1 document.nodes
    × IsDistinct nat_eq (document.root ∷ labels document.nodes)
    × IsTrue (list_all (λ n. nat_lt n (first + 1 + size document.nodes)) (document.root ∷ labels document.nodes))
    × (first + 1 + size document.nodes ≤ number_limit)

pub built_faultless : BeginWell → (scope : Scope) → scope ≡ root_scope → (first : ℕ) (body : List (List ℕ)) (r : Result Built BuildFault)
    → Builds document_in r (document_of scope first body) → IfOk r (λ built. IsFaultless built.document)
built_faultless begins scope root first body (Ok built) is =
    let told = begins first body built.document (subst (λ (s : Scope). document_of s first body ≡ Ok built.document) root is) in
    record { valid = told.0; normal = told.1 }
built_faultless begins scope root first body (Err fault) is = tt
