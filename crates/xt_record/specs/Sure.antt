-- What is sure of the records that a run may reuse.
use Rattle.std.specs.Prelude.{◌≡◌, ℕ, suc, ◌+◌, ◌-◌, ◌<◌, ◌≤◌, Bool, true, false, List, [], ◌∷◌, take, drop, slice_get, IfSome}
use Rattle.std.specs.declared.rc.Rc.{Rc}
use Rattle.std.specs.declared.alloc.Global.{Global}
use Rattle.spec_meaning.specs.Question.{Question, Answer}
use Rattle.spec_run.specs.Going.{Event, Asked, Saw, Entered, Held}
use Rattle.spec_node.specs.declared.node_ref.NodeRef.{NodeRef}
use Rattle.xt_touch.specs.View.{since_of}
use Rattle.xt_spared.specs.View.{IsSparedBy}
use Rattle.xt_spared.specs.declared.spared.Spared.{Spared}
use Rattle.xt_record.specs.View.{kept_in, AsksHold}
use Rattle.xt_record.specs.Chain.{keys_in}
use Rattle.xt_record.specs.Grown.{values_of, AreTrees}
use Rattle.xt_record.specs.Asked.{marked_left, marked_of}
use Rattle.xt_record.specs.declared.pool.Pool.{Pool}
use Rattle.xt_record.specs.declared.record.Record.{Record}
use Rattle.xt_record.specs.declared.reuse.Verdict.{Verdict}
use Rattle.xt_record.specs.declared.reuse.Verdict.TheVariants.{Unasked, Holds, Fails}
use Rattle.xt_record.specs.declared.reuse.Reuse.{Reuse}

-- the questions of each of these records have their answers
abbrev pub AllHold : (Question NodeRef → Answer NodeRef) → List (Rc Record Global) → Type 0
AllHold ask [] = Unit {0}
AllHold ask (r ∷ rs) = AsksHold ask (kept_in r.value).trace × AllHold ask rs

-- what comes of asking those of a record
abbrev pub verdict_of : Bool → Verdict
verdict_of true = Holds
verdict_of false = Fails

-- this verdict is true of a record
abbrev pub IsTrueOf : (Question NodeRef → Answer NodeRef) → Verdict → Record → Type 0
IsTrueOf ask Unasked r = Unit {0}
IsTrueOf ask Holds r = AsksHold ask (kept_in r).trace
IsTrueOf ask Fails r = AsksHold ask (kept_in r).trace → ⊥

-- each record has a verdict, which is true of it
abbrev pub AllJudged : (Question NodeRef → Answer NodeRef) → List Verdict → List (Rc Record Global) → Type 0
AllJudged ask [] [] = Unit {0}
AllJudged ask [] (r ∷ rs) = ⊥
AllJudged ask (v ∷ vs) [] = ⊥
AllJudged ask (v ∷ vs) (r ∷ rs) = IsTrueOf ask v r.value × AllJudged ask vs rs

-- the questions of all that a run kept have their answers, and its trees are so
pub record AreAnswered (ask : Question NodeRef → Answer NodeRef) (pool : Pool) : Type 0 where
  pub hold : AllHold ask pool.records.items
  pub trees : AreTrees (values_of pool.records.items) pool.trees.items

-- those that stand from a place on, up to an end
abbrev pub from_to : (first end : ℕ) → List (Rc Record Global) → List (Rc Record Global)
from_to first end rs = take (end - first) (drop first rs)

-- the questions of all records of the tree at this turn have their answers
abbrev pub TreeHolds : (Question NodeRef → Answer NodeRef) → Pool → (turn : ℕ) → Type 0
TreeHolds ask pool turn =
    IfSome (slice_get pool.trees.items turn) (λ t. 0 < t.size → AllHold ask (from_to (suc turn - t.size) (suc turn) pool.records.items))

-- ---- What need not be asked again

-- each question among what was done that is spared has its answer
abbrev pub AsksSpared : (Question NodeRef → Answer NodeRef) → Spared → List (Event NodeRef) → Type 0
AsksSpared ask spared [] = Unit {0}
AsksSpared ask spared (Asked question answer ∷ es) = (IsSparedBy spared question → ask question ≡ answer) × AsksSpared ask spared es
AsksSpared ask spared (Saw wanted depth place supplied ∷ es) = AsksSpared ask spared es
AsksSpared ask spared (Entered call depth ∷ es) = AsksSpared ask spared es
AsksSpared ask spared (Held first contents ∷ es) = AsksSpared ask spared es

-- and of each of these records
abbrev pub AllSpared : (Question NodeRef → Answer NodeRef) → Spared → List (Rc Record Global) → Type 0
AllSpared ask spared [] = Unit {0}
AllSpared ask spared (r ∷ rs) = AsksSpared ask spared (kept_in r.value).trace × AllSpared ask spared rs

-- ---- What a run may reuse

-- the questions of what this run kept have these answers, those of the last run are as they were found to be, and each question of the last run
-- that is spared has its answer. No more questions were asked than these changes mark of the records of the last run that were judged. The trees are
-- so, and those of the last run were put in order as they stand, if they were
pub record IsSure (ask : Question NodeRef → Answer NodeRef) (reuse : Reuse) : Type 0 where
  pub kept : AllHold ask reuse.kept.records.items
  pub judged : AllJudged ask reuse.verdicts.items reuse.last.now.records.items
  pub spared : AllSpared ask reuse.spared.now reuse.last.now.records.items
  pub counted : reuse.steps.asked + marked_left (since_of reuse.spared.now.since.now) reuse.verdicts.items reuse.last.now.records.items
      ≤ marked_of (since_of reuse.spared.now.since.now) reuse.last.now
  pub next : AllHold ask reuse.next.records.items
  pub grown : AreTrees (values_of reuse.next.records.items) reuse.next.trees.items
  pub trees : AreTrees (values_of reuse.last.now.records.items) reuse.last.now.trees.items
  pub ordered : IfSome reuse.in_order (λ index. keys_in index.records.items ≡ keys_in reuse.last.now.records.items)
