-- How many questions of the last run a run asks again.
--     marked_in   those that changes mark among what was done
--     marked_of   those of all that a run kept
--     marked_left those of the records that were not judged yet (IsLeftNoMore)
--     NoneMarked  where none is marked but choices and keys
--     UnitIsAsked, NoUnitIsAsked  which units they are for
--     Asks        what asking some of them counts
--     Judges      what a run that judges records leaves as it was
--     LooksAt     what it leaves as it was where it may keep more for the next run besides
--     StaysSo     what it leaves as it was where it does not even judge
use Rattle.std.specs.Prelude.{◌≡◌, ◌⊎◌, ℕ, ◌+◌, ◌≤◌, Bool, true, false, List, [], ◌∷◌}
use Rattle.std.specs.declared.rc.Rc.{Rc}
use Rattle.std.specs.declared.alloc.Global.{Global}
use Rattle.spec_meaning.specs.Question.{Unit as UnitOf}
use Rattle.spec_run.specs.Going.{Event, Asked, Saw, Entered, Held}
use Rattle.spec_node.specs.declared.node_ref.NodeRef.{NodeRef}
use Rattle.spec_touch.specs.Marks.{WorldChange, any_marks}
use Rattle.xt_spared.specs.View.{by_own_reads}
use Rattle.xt_touch.specs.View.{since_of}
use Rattle.xt_record.specs.View.{kept_in}
use Rattle.xt_record.specs.declared.pool.Pool.{Pool}
use Rattle.xt_record.specs.declared.record.Record.{Record}
use Rattle.xt_record.specs.declared.reuse.Reuse.{Reuse}
use Rattle.xt_record.specs.declared.reuse.Steps.{Steps}
use Rattle.xt_record.specs.declared.reuse.Verdict.{Verdict}
use Rattle.xt_record.specs.declared.reuse.Verdict.TheVariants.{Unasked, Holds, Fails}

-- one where it is so
abbrev pub one_if : Bool → ℕ
one_if true = 1
one_if false = 0

-- the questions among what was done that one of these changes marks
abbrev pub marked_in : List WorldChange → List (Event NodeRef) → ℕ
marked_in changes [] = 0
marked_in changes (Asked question answer ∷ es) = one_if (any_marks changes question) + marked_in changes es
marked_in changes (Saw wanted depth place supplied ∷ es) = marked_in changes es
marked_in changes (Entered call depth ∷ es) = marked_in changes es
marked_in changes (Held first contents ∷ es) = marked_in changes es

abbrev pub marked_among : List WorldChange → List (Rc Record Global) → ℕ
marked_among changes [] = 0
marked_among changes (r ∷ rs) = marked_in changes (kept_in r.value).trace + marked_among changes rs

-- those of all that a run kept
abbrev pub marked_of : List WorldChange → Pool → ℕ
marked_of changes pool = marked_among changes pool.records.items

-- those of each of these records whose verdict is that it was not judged yet
abbrev pub marked_left : List WorldChange → List Verdict → List (Rc Record Global) → ℕ
marked_left changes [] rs = 0
marked_left changes (v ∷ vs) [] = 0
marked_left changes (Unasked ∷ vs) (r ∷ rs) = marked_in changes (kept_in r.value).trace + marked_left changes vs rs
marked_left changes (Holds ∷ vs) (r ∷ rs) = marked_left changes vs rs
marked_left changes (Fails ∷ vs) (r ∷ rs) = marked_left changes vs rs

-- those of this record, which was judged, are not among those that are left
abbrev pub IsLeftNoMore : Reuse → Record → Type 0
IsLeftNoMore reuse r =
    marked_left (since_of reuse.spared.now.since.now) reuse.verdicts.items reuse.last.now.records.items
    + marked_in (since_of reuse.spared.now.since.now) (kept_in r).trace ≤ marked_of (since_of reuse.spared.now.since.now) reuse.last.now

-- ---- Questions but for choices and keys

-- none of them among what was done is marked
abbrev pub NoneMarked : List WorldChange → List (Event NodeRef) → Type 0
NoneMarked changes [] = Unit {0}
NoneMarked changes (Asked question answer ∷ es) = (by_own_reads question ≡ false → any_marks changes question ≡ false) × NoneMarked changes es
NoneMarked changes (Saw wanted depth place supplied ∷ es) = NoneMarked changes es
NoneMarked changes (Entered call depth ∷ es) = NoneMarked changes es
NoneMarked changes (Held first contents ∷ es) = NoneMarked changes es

-- nor of each of these records
abbrev pub NoneMarkedAmong : List WorldChange → List (Rc Record Global) → Type 0
NoneMarkedAmong changes [] = Unit {0}
NoneMarkedAmong changes (r ∷ rs) = NoneMarked changes (kept_in r.value).trace × NoneMarkedAmong changes rs

-- ---- Questions for a unit

-- one for that of this element is among what was done
abbrev pub AsksUnit : NodeRef → List (Event NodeRef) → Type 0
AsksUnit element [] = ⊥
AsksUnit element (Asked question answer ∷ es) = (question ≡ UnitOf element) ⊎ AsksUnit element es
AsksUnit element (Saw wanted depth place supplied ∷ es) = AsksUnit element es
AsksUnit element (Entered call depth ∷ es) = AsksUnit element es
AsksUnit element (Held first contents ∷ es) = AsksUnit element es

-- or among what one of these records did
abbrev pub UnitIsAsked : NodeRef → List (Rc Record Global) → Type 0
UnitIsAsked element [] = ⊥
UnitIsAsked element (r ∷ rs) = AsksUnit element (kept_in r.value).trace ⊎ UnitIsAsked element rs

-- for that of no element
abbrev pub NoUnitIsAsked : List (Rc Record Global) → Type 0
NoUnitIsAsked rs = (element : NodeRef) → UnitIsAsked element rs → ⊥

-- ---- What was asked in between

-- some questions that were marked among what was done, none of them twice. Nothing else is counted
pub record Asks (changes : List WorldChange) (trace : List (Event NodeRef)) (before after : Steps) : Type 0 where
  pub ran : after.ran ≡ before.ran
  pub asked : before.asked ≤ after.asked
  pub most : after.asked ≤ before.asked + marked_in changes trace

-- records of the last run were judged, and nothing else was done
pub record Judges (before after : Reuse) : Type 0 where
  pub last : after.last ≡ before.last
  pub spared : after.spared ≡ before.spared
  pub kept : after.kept ≡ before.kept
  pub next : after.next ≡ before.next
  pub ran : after.steps.ran ≡ before.steps.ran
  pub asked : before.steps.asked ≤ after.steps.asked

-- records of the last run may have been judged, and some of them are kept for the next run
pub record LooksAt (before after : Reuse) : Type 0 where
  pub last : after.last ≡ before.last
  pub spared : after.spared ≡ before.spared
  pub kept : after.kept ≡ before.kept
  pub ran : after.steps.ran ≡ before.steps.ran
  pub asked : before.steps.asked ≤ after.steps.asked

-- nothing was judged, kept for later calls or counted
pub record StaysSo (before after : Reuse) : Type 0 where
  pub last : after.last ≡ before.last
  pub spared : after.spared ≡ before.spared
  pub verdicts : after.verdicts ≡ before.verdicts
  pub kept : after.kept ≡ before.kept
  pub steps : after.steps ≡ before.steps
