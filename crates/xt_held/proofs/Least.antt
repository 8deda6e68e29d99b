-- Where nothing was run and nothing asked again, what is left is asked.
use Rattle.std.proofs.Common.{◌≡◌, List, Option, None, Some, Result, Ok, Err, sym, subst, ◌∙◌}
use Rattle.std.specs.Prelude.{IfOk, IfSome, OnOk}
use Rattle.std.proofs.lemmas.Result.{IfOk-weaker}
use Rattle.spec_touch.specs.Marks.{WorldChange}
use Rattle.xt_text.specs.declared.memory.Memory.{Memory}
use Rattle.xt_touch.specs.View.{since_of}
use Rattle.xt_record.specs.Asked.{Judges, NoneMarkedAmong}
use Rattle.xt_record.specs.declared.pool.Pool.{Pool}
use Rattle.xt_record.specs.declared.reuse.Reuse.{Reuse}
use Rattle.xt_driver.specs.declared.whole.Whole.{Whole}
use Rattle.xt_held.specs.Marked.{AsksLeast}
use Rattle.xt_held.specs.declared.counts.Counts.{Counts}
use Rattle.xt_held.specs.declared.last_run.Kept.{Kept}
use Rattle.xt_held.specs.declared.outcome.Came.{Came}
use Rattle.xt_held.specs.declared.outcome.Recorded.{Recorded}

-- what comes of the run with what is left comes of the run
pub left_run : (r s : Result Whole Memory) (t : Result Recorded Memory) → IfOk s (λ over. r ≡ Ok over) → IfOk t (λ over. s ≡ Ok over.whole)
    → IfOk t (λ over. r ≡ Ok over.whole)
left_run r s (Err memory) left is = tt
left_run r s (Ok over) left is = subst (λ (x : Result Whole Memory). IfOk x (λ whole. r ≡ Ok whole)) is left

-- nothing more is run or kept
pub left_ran : (before after : Reuse) (t : Result Recorded Memory) → Judges before after → IfOk t (λ over. over.counts.ran ≡ after.steps.ran)
    → IfOk t (λ over. over.counts.ran ≡ before.steps.ran)
left_ran before after t judges told = IfOk-weaker t _ _ (λ over is. is ∙ judges.ran) told

pub left_next : (before after : Reuse) (t : Result Recorded Memory) → Judges before after → IfOk t (λ over. over.records ≡ after.next)
    → IfOk t (λ over. over.records ≡ before.next)
left_next before after t judges told = IfOk-weaker t _ _ (λ over is. is ∙ judges.next) told

-- of the records at hand and of these changes
pub left_least : (records : Pool) (changes : List WorldChange) (before after : Reuse) (s : Result Whole Memory) (t : Result Recorded Memory)
    → before.last.now ≡ records → since_of before.spared.now.since.now ≡ changes
    → OnOk s (after.steps.ran ≡ 0 → after.steps.asked ≡ 0 → NoneMarkedAmong (since_of before.spared.now.since.now) before.last.now.records.items)
    → IfOk t (λ over. s ≡ Ok over.whole) → IfOk t (λ over. over.counts.ran ≡ after.steps.ran) → IfOk t (λ over. over.counts.asked ≡ after.steps.asked)
    → IfOk t (λ over. AsksLeast changes records over.counts)
left_least records changes before after s (Err memory) last since least is ran asked = tt
left_least records changes before after s (Ok over) last since least is ran asked = λ no_run none.
    let told = subst (λ (x : Result Whole Memory). OnOk x (after.steps.ran ≡ 0 → after.steps.asked ≡ 0
    → NoneMarkedAmong (since_of before.spared.now.since.now) before.last.now.records.items)) is least in
    subst (λ (cs : List WorldChange). NoneMarkedAmong cs records.records.items) since
    (subst (λ (pool : Pool). NoneMarkedAmong (since_of before.spared.now.since.now) pool.records.items) last
    (told (sym ran ∙ no_run) (sym asked ∙ none)))

-- ---- What comes of that

pub came_least : (changes : List WorldChange) (records : Pool) (counts : Counts) (r : Result Came Memory) → IfOk r (λ came. came.counts ≡ counts)
    → AsksLeast changes records counts → IfOk r (λ came. IfSome came.kept (λ kept. AsksLeast changes records came.counts))
came_least changes records counts r told h = IfOk-weaker r _ _ (λ came is. by came.kept (subst (λ (c : Counts). AsksLeast changes records c) (sym is) h)) told
  where
    by : {P : Type 0} (kept : Option Kept) → P → IfSome kept (λ k. P)
    by None h = tt
    by (Some kept) h = h

pub none_least : (changes : List WorldChange) (records : Pool) (r : Result Came Memory) → IfOk r (λ came. came.kept ≡ None)
    → IfOk r (λ came. IfSome came.kept (λ kept. AsksLeast changes records came.counts))
none_least changes records r told =
    IfOk-weaker r _ _ (λ came is. subst (λ (o : Option Kept). IfSome o (λ kept. AsksLeast changes records came.counts)) (sym is) tt) told
