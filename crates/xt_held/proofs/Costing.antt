-- What a run has cost, by what it counts.
use Rattle.std.proofs.Common.{◌≡◌, ◌≤◌, ℕ, ◌+◌, List, [], ◌++◌, length, map, min, Option, None, Some, Result, Ok, Err, arith, refl, sym, ap, subst, ◌∙◌}
use Rattle.std.specs.Prelude.{IfOk, OnOk}
use Rattle.std.proofs.lemmas.List.{append-nil}
use Rattle.std.proofs.lemmas.Result.{IfOk-weaker}
use Rattle.spec_document.specs.Forest.{Document}
use Rattle.spec_run.specs.Documents.{Parameters}
use Rattle.spec_run.specs.Meaning.{Setting}
use Rattle.spec_run.specs.Trail.{Kept}
use Rattle.spec_reuse.specs.Instantiation.{instantiations}
use Rattle.spec_reuse.specs.Ledger.{Enters}
use Rattle.spec_reuse.proofs.Counting.{run_counted}
use Rattle.spec_node.specs.declared.node_ref.NodeRef.{NodeRef}
use Rattle.spec_cost.specs.Paying.{IsUnrecorded}
use Rattle.spec_touch.specs.Marks.{WorldChange}
use Rattle.xt_text.specs.declared.memory.Memory.{Memory}
use Rattle.xt_engine.specs.declared.global.NamedGlobal.{NamedGlobal}
use Rattle.xt_world.specs.Numbered.{ref_to}
use Rattle.xt_world.specs.View.{truth_in}
use Rattle.xt_world.specs.declared.stylesheet.Stylesheet as world
use Rattle.xt_touch.specs.View.{since_of}
use Rattle.xt_record.specs.Asked.{marked_of}
use Rattle.xt_record.specs.Sure.{IsSure}
use Rattle.xt_record.specs.declared.pool.Pool.{Pool}
use Rattle.xt_record.specs.declared.reuse.Reuse.{Reuse}
use Rattle.xt_driver.specs.Counted.{CountedWhole, kept_at, most_counted, records_of}
use Rattle.xt_driver.specs.View.{setting_in}
use Rattle.xt_driver.specs.declared.whole.Whole.{Whole}
use Rattle.xt_held.specs.Cost.{Costs, CostsRun, kept_among, setting_on}
use Rattle.xt_held.specs.OutcomeView.{no_counts}
use Rattle.xt_held.specs.RunView.{Ask}
use Rattle.xt_held.specs.declared.counts.Counts.{Counts}
use Rattle.xt_held.specs.declared.outcome.Came.{Came}
use Rattle.xt_held.specs.declared.outcome.Over.{Over}
use Rattle.xt_held.specs.declared.outcome.Recorded.{Recorded}
use Rattle.xt_held.specs.declared.stylesheet.Compiled.{Compiled}
use Rattle.xt_held.specs.declared.stylesheet.Compiled.TheVariants.{Stylesheet, Refused}

-- ---- What a run counts

-- by numbers, in the setting that is held of it
pub counted_on : (held : world.Stylesheet) (parameters : Parameters) (document : Document ℕ) (root : NodeRef) → root ≡ ref_to document.root
    → (globals : List NamedGlobal) → globals ≡ held.globals.items → (truth : Ask) → truth ≡ truth_in held parameters document
    → (r : Result Whole Memory) (before after : Reuse)
    → OnOk r (CountedWhole (setting_in truth root globals) (instantiations (setting_in truth root globals)) before after)
    → OnOk r (CountedWhole (setting_on held parameters document) (instantiations (setting_on held parameters document)) before after)
counted_on held parameters document root is globals are truth told r before after h =
    let same : setting_in truth root globals ≡ setting_on held parameters document = λ i. setting_in (told i) (is i) (are i) in
    subst (λ (s : Setting NodeRef). OnOk r (CountedWhole s (instantiations s) before after)) same h

-- what the records at hand are where a run begins, and what is counted until then
pub record Begins (records : Pool) (reuse : Reuse) : Type 0 where
  pub last : reuse.last.now ≡ records
  pub kept : reuse.kept.records.items ≡ []
  pub ran : reuse.steps.ran ≡ 0

first_records : (records : Pool) (reuse : Reuse) → Begins records reuse → records_of reuse ≡ kept_among records
first_records records reuse h =
    (λ i. map kept_at (h.last i).records.items ++ map kept_at (h.kept i)) ∙ append-nil (kept_among records)

ran_so : (before counted most after : ℕ) → before ≡ 0 → (before ≤ most → after ≡ min (before + counted) most) → after ≡ min counted most
ran_so before counted most after zero h =
    let from : 0 ≤ most → after ≡ min (0 + counted) most = subst (λ (n : ℕ). n ≤ most → after ≡ min (n + counted) most) zero h in
    let none : 0 + counted ≡ counted = omega arith in
    from (omega arith) ∙ ap (λ (n : ℕ). min n most) none

costs_of : (s : Setting NodeRef) (records : Pool) (before after : Reuse) (counts : Counts) → Begins records before
    → CountedWhole s (instantiations s) before after → counts.ran ≡ after.steps.ran → Costs s records counts
costs_of s records before after counts begins h ran = record {
  list = h.list;
  counted = run_counted s (kept_among records) (records_of after) (IsUnrecorded (kept_among records)) h.list (λ kept among new. new kept among refl refl)
      (subst (λ (ks : List (Kept NodeRef)). Enters s ks h.list (instantiations s) (records_of after)) (first_records records before begins) h.enters);
  ran = ran ∙ ran_so before.steps.ran (length h.list) most_counted after.steps.ran begins.ran h.ran;
}

-- what comes of the run has cost so much
pub recorded_cost : (s : Setting NodeRef) (records : Pool) (before after : Reuse) (r : Result Whole Memory) (t : Result Recorded Memory)
    → Begins records before → OnOk r (CountedWhole s (instantiations s) before after) → IfOk t (λ over. r ≡ Ok over.whole)
    → IfOk t (λ over. over.counts.ran ≡ after.steps.ran) → IfOk t (λ over. Costs s records over.counts)
recorded_cost s records before after r (Err memory) begins counted is ran = tt
recorded_cost s records before after r (Ok over) begins counted is ran =
    costs_of s records before after over.counts begins
    (subst (λ (x : Result Whole Memory). OnOk x (CountedWhole s (instantiations s) before after)) is counted) ran

-- and no more was asked again of the records than these changes mark
pub recorded_asked : (records : Pool) (changes : List WorldChange) (ask : Ask) (after : Reuse) (r : Result Whole Memory) (t : Result Recorded Memory)
    → after.last.now ≡ records → since_of after.spared.now.since.now ≡ changes → OnOk r (IsSure ask after) → IfOk t (λ over. r ≡ Ok over.whole)
    → IfOk t (λ over. (ask : Ask) → IsSure ask after → over.counts.asked ≤ marked_of (since_of after.spared.now.since.now) after.last.now)
    → IfOk t (λ over. over.counts.asked ≤ marked_of changes records)
recorded_asked records changes ask after r (Err memory) last since sure is asked = tt
recorded_asked records changes ask after r (Ok over) last since sure is asked =
    let is_sure = subst (λ (x : Result Whole Memory). OnOk x (IsSure ask after)) is sure in
    subst (λ (cs : List WorldChange). over.counts.asked ≤ marked_of cs records) since
    (subst (λ (pool : Pool). over.counts.asked ≤ marked_of (since_of after.spared.now.since.now) pool) last (asked ask is_sure))

-- ---- What comes of that

-- with what else it keeps
pub over_counts : (P : Counts → Type 0) (recorded : Recorded) (t : Result Over Memory) → IfOk t (λ over. over.counts ≡ recorded.counts)
    → P recorded.counts → IfOk t (λ over. P over.counts)
over_counts P recorded t told h = IfOk-weaker t _ _ (λ over is. subst P (sym is) h) told

-- of a run of what is seen
pub came_cost : (P : Counts → Type 0) (counts : Counts) (r : Result Came Memory) → IfOk r (λ came. came.counts ≡ counts) → P counts
    → IfOk r (λ came. P came.counts)
came_cost P counts r told h = IfOk-weaker r _ _ (λ came is. subst P (sym is) h) told

-- where nothing is run
pub refused_cost : (compiled : Compiled) (parameters : Parameters) (source : Option (Document ℕ)) (records : Pool) (counts : Counts)
    → counts ≡ no_counts → source ≡ None → CostsRun (Some compiled) parameters source records counts
refused_cost (Refused why) parameters source records counts h none = h
refused_cost (Stylesheet held rules method) parameters source records counts h none =
    subst (λ (s : Option (Document ℕ)). CostsRun (Some (Stylesheet held rules method)) parameters s records counts) (sym none) h
