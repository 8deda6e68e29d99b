-- What a run keeps is complete.
use Rattle.std.proofs.Common.{◌≡◌, ℕ, List, [], ◌∷◌, map, Option, None, Some, Result, Ok, Err, refl, sym, ap, subst, ◌∙◌}
use Rattle.std.specs.Prelude.{IfOk, IfSome, OnOk}
use Rattle.std.specs.Option.{is_none, is_some}
use Rattle.std.specs.declared.alloc.Global.{Global}
use Rattle.std.specs.declared.rc.Rc.{Rc}
use Rattle.spec_document.specs.Name.{Expanded}
use Rattle.spec_document.specs.Forest.{Document, Plain}
use Rattle.spec_stylesheet.specs.declared.method.Method.{Method}
use Rattle.spec_result.specs.Shape.{shaped}
use Rattle.spec_run.specs.Documents.{Parameters}
use Rattle.spec_run.specs.Meaning.{Setting, run_of}
use Rattle.spec_run.specs.Outcome.{Done, Failed, outcome_by, refused_dynamic}
use Rattle.spec_run.specs.Plan.{Refused as Refusal}
use Rattle.spec_reuse.specs.Among.{IsIn}
use Rattle.spec_reuse.specs.Instantiation.{instantiations}
use Rattle.spec_reuse.specs.Ledger.{IsFound}
use Rattle.spec_cost.specs.Paying.{KeepsRun}
use Rattle.spec_node.specs.declared.node_ref.NodeRef.{NodeRef}
use Rattle.xt_text.specs.declared.memory.Memory.{Memory}
use Rattle.xt_engine.specs.declared.global.NamedGlobal.{NamedGlobal}
use Rattle.xt_world.specs.Numbered.{ref_to}
use Rattle.xt_world.specs.View.{truth_in}
use Rattle.xt_world.specs.declared.stylesheet.Stylesheet as world
use Rattle.xt_record.specs.Grown.{values_of}
use Rattle.xt_record.specs.Search.{next_of}
use Rattle.xt_record.specs.View.{kept_in}
use Rattle.xt_record.specs.declared.pool.Pool.{Pool}
use Rattle.xt_record.specs.declared.record.Record.{Record}
use Rattle.xt_record.specs.declared.reuse.Reuse.{Reuse}
use Rattle.xt_driver.specs.Counted.{AreLikeRun, IsWithin, KeepsAll, KeepsOnly, kept_at, kept_by}
use Rattle.xt_driver.specs.View.{setting_in, whole_of}
use Rattle.xt_driver.specs.declared.whole.Whole.{Whole}
use Rattle.xt_held.specs.Complete.{Completes, KeepsFor}
use Rattle.xt_held.specs.Cost.{kept_among, setting_on}
use Rattle.xt_held.specs.OutcomeView.{Fits, is_done, outcome_of}
use Rattle.xt_held.specs.RunView.{Ask}
use Rattle.xt_held.specs.declared.last_run.Kept.{Kept}
use Rattle.xt_held.specs.declared.outcome.Came.{Came}
use Rattle.xt_held.specs.declared.outcome.Over.{Over}
use Rattle.xt_held.specs.declared.outcome.Recorded.{Recorded}

-- ---- The run

-- the records of a pool
kept_values : (rs : List (Rc Record Global)) → map kept_in (values_of rs) ≡ map kept_at rs
kept_values [] = refl
kept_values (r ∷ rs) = ap (λ ks. kept_at r ∷ ks) (kept_values rs)

-- at the start all that is kept for the next run is at hand, since nothing is
pub begun_within : (reuse : Reuse) → next_of reuse ≡ [] → IsWithin reuse
begun_within reuse none kept among = absurd (subst (λ (vs : List Record). IsIn kept (map kept_in vs)) none among)

-- what comes of the run is what it came to with the records that it keeps
recorded_so : (s : Setting NodeRef) (reuse : Reuse) (r : Result Whole Memory) (t : Result Recorded Memory) → IfOk t (λ over. r ≡ Ok over.whole)
    → IfOk t (λ over. over.records ≡ reuse.next) → IfOk r (λ w. whole_of w ≡ run_of s) → OnOk r (KeepsAll s (instantiations s) reuse)
    → OnOk r (AreLikeRun s (kept_by reuse)) → IfOk t (λ over. Completes s over.whole over.records)
recorded_so s reuse r (Err memory) told kept run keeps only = tt
recorded_so s reuse r (Ok over) told kept run keeps only =
    let all = subst (λ (x : Result Whole Memory). OnOk x (KeepsAll s (instantiations s) reuse)) told keeps in
    let like = subst (λ (x : Result Whole Memory). OnOk x (AreLikeRun s (kept_by reuse))) told only in
    let same : kept_by reuse ≡ kept_among over.records =
    kept_values reuse.next.records.items ∙ ap (λ (pool : Pool). kept_among pool) (sym kept) in
    record {
      is = subst (λ (x : Result Whole Memory). IfOk x (λ w. whole_of w ≡ run_of s)) told run;
      keeps = record {
        all = λ i among ends. subst (λ ks. IsFound s ks i) same (all.found i among ends);
        only = subst (λ ks. AreLikeRun s ks) same like;
      };
    }

-- at the start it has kept nothing
like_from : (s : Setting NodeRef) (before after : Reuse) → next_of before ≡ [] → (r : Result Whole Memory)
    → OnOk r (KeepsOnly s before after) → OnOk r (AreLikeRun s (kept_by after))
like_from s before after none (Err memory) h = tt
like_from s before after none (Ok whole) h =
    h.so (subst (λ (vs : List Record). AreLikeRun s (map kept_in vs)) (sym none) (λ kept among. absurd among))

-- by numbers, in the setting that is held of it
pub recorded_complete : (held : world.Stylesheet) (parameters : Parameters) (document : Document ℕ) (root : NodeRef) → root ≡ ref_to document.root
    → (globals : List NamedGlobal) → globals ≡ held.globals.items → (truth : Ask) → truth ≡ truth_in held parameters document
    → (before reuse : Reuse) → next_of before ≡ [] → (r : Result Whole Memory) (t : Result Recorded Memory)
    → IfOk t (λ over. r ≡ Ok over.whole) → IfOk t (λ over. over.records ≡ reuse.next) → IfOk r (λ w. whole_of w ≡ run_of (setting_in truth root globals))
    → OnOk r (KeepsAll (setting_in truth root globals) (instantiations (setting_in truth root globals)) reuse)
    → OnOk r (KeepsOnly (setting_in truth root globals) before reuse)
    → IfOk t (λ over. Completes (setting_on held parameters document) over.whole over.records)
recorded_complete held parameters document root is globals are truth told before reuse none r t whole kept run keeps only =
    let same : setting_in truth root globals ≡ setting_on held parameters document = λ i. setting_in (told i) (is i) (are i) in
    subst (λ (s : Setting NodeRef). IfOk t (λ over. Completes s over.whole over.records)) same
    (recorded_so (setting_in truth root globals) reuse r t whole kept run keeps (like_from (setting_in truth root globals) before reuse none r only))

-- with what else it keeps
pub over_complete : (s : Setting NodeRef) (recorded : Recorded) (t : Result Over Memory) → IfOk t (λ over. over.whole ≡ recorded.whole)
    → IfOk t (λ over. over.kept.records ≡ recorded.records) → Completes s recorded.whole recorded.records
    → IfOk t (λ over. Completes s over.whole over.kept.records)
over_complete s recorded (Err memory) told kept h = tt
over_complete s recorded (Ok over) told kept h =
    subst (λ (whole : Whole). Completes s whole over.kept.records) (sym told)
    (subst (λ (pool : Pool). Completes s recorded.whole pool) (sym kept) h)

-- ---- What is left of it

done_by : (content : Plain) (method : Option (Method Expanded)) (messages : List (List ℕ)) (refusal : Option Refusal)
    → is_done (elim refusal [ None ↦ Done content method messages | Some why ↦ Failed (refused_dynamic why) messages ]) ≡ is_none refusal
done_by content method messages None = refl
done_by content method messages (Some why) = refl

left_by : (s : Setting NodeRef) (refusal : Option Refusal) (kept : Option Kept) → is_some kept ≡ is_none refusal
    → IfSome kept (λ k. KeepsRun s (kept_among k.records)) → KeepsFor refusal s kept
left_by s None None e h = absurd (cc)
left_by s None (Some kept) e h = h
left_by s (Some why) None e h = tt
left_by s (Some why) (Some kept) e h = absurd (cc)

left_kept : (kept : Option Kept) (left : Kept) (P : Kept → Type 0) → IfSome kept (λ k. k ≡ left) → P left → IfSome kept P
left_kept None left P is h = tt
left_kept (Some kept) left P is h = subst P (sym is) h

-- what a run leaves that is over
pub ended_keeps : (s : Setting NodeRef) (method : Option (Method Expanded)) (over : Over) (r : Result Came Memory) → Completes s over.whole over.kept.records
    → IfOk r (λ came. outcome_of came.outcome ≡ outcome_by method (whole_of over.whole)) → IfOk r (λ came. Fits came)
    → IfOk r (λ came. IfSome came.kept (λ kept. kept ≡ over.kept)) → IfOk r (λ came. KeepsFor (run_of s).refusal s came.kept)
ended_keeps s method over (Err memory) complete outcome fits kept = tt
ended_keeps s method over (Ok came) complete outcome fits kept =
    let run = run_of s in
    let outcome_so : outcome_of came.outcome ≡ outcome_by method run = outcome ∙ ap (outcome_by method) complete.is in
    left_by s run.refusal came.kept (fits.kept ∙ ap is_done outcome_so ∙ done_by (shaped run.content) method run.messages run.refusal)
    (left_kept came.kept over.kept (λ k. KeepsRun s (kept_among k.records)) kept complete.keeps)
