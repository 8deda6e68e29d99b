use Rattle.std.proofs.Common.{List, ◌∙◌, sym, ap, subst}
use Rattle.spec_node.specs.declared.node_ref.NodeRef.{NodeRef}
use Rattle.spec_run.specs.Going.{Event}
use Rattle.spec_run.specs.Trail.{Kept}
use Rattle.xt_engine.specs.View.{call_of}
use Rattle.xt_engine.specs.Advances.{ran_of}
use Rattle.xt_record.specs.Kept.{kept_with}
use Rattle.xt_record.specs.View.{kept_in, AsksHold}
use Rattle.xt_record.proofs.Ok.{on_both}
use Rattle.xt_driver.proofs.Coming.{on_all}
use Rattle.xt_driver.proofs.keep.keep_run.Goals as goal

pub returns-clause-sure : goal.returns-clause-sure
returns-clause-sure c =
    let same = ap kept_in c.in-Ok-new.ensures.ok ∙ c.new-kept.ensures ∙ ap (λ k. kept_with k (ran_of c.into_inner-ran.result)) c.in-Ok.ensures
    ∙ ap (λ r. kept_with (call_of c.args.call.now) (ran_of r)) c.into_inner-ran.ensures in
    on_all c.keep.result c.keep.ensures.sure (λ sure ask before asks.
    let P : List (Event NodeRef) → Type 0 = λ es. AsksHold ask es in
    sure ask before (subst P (ap (λ (k : Kept NodeRef). k.trace) (sym same)) asks))

pub returns-clause-kept : goal.returns-clause-kept
returns-clause-kept c =
    let same = ap kept_in c.in-Ok-new.ensures.ok ∙ c.new-kept.ensures ∙ ap (λ k. kept_with k (ran_of c.into_inner-ran.result)) c.in-Ok.ensures
    ∙ ap (λ r. kept_with (call_of c.args.call.now) (ran_of r)) c.into_inner-ran.ensures in
    on_all c.keep.result (on_both _ _ c.keep.result c.keep.ensures.kept c.keep.ensures.next) (λ kept.
    (c.in-Ok-new.shared, record { kept = kept.0; next = kept.1 }, same))
