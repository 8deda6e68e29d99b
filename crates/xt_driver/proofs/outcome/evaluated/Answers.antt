use Rattle.std.proofs.Common.{◌∙◌, ◌++◌, ap, map, refl}
use Rattle.xt_tree.specs.StreamView.{stream_of}
use Rattle.spec_run.specs.Meaning.{held_by}
use Rattle.xt_driver.specs.declared.memo.Referred.{Referred}
use Rattle.xt_driver.specs.declared.came.Outcome.{Outcome}
use Rattle.xt_driver.specs.View.{outcome_of}
use Rattle.xt_driver.specs.Referring.{entry_of, entries_of, remembered_as}
use Rattle.xt_driver.proofs.Referring.{evaluates_made}
use Rattle.xt_driver.proofs.outcome.evaluated.Goals as goal

pub returns : goal.returns
returns c =
    let old = entries_of c.args.memo.now in
    let e = c.args.evaluation.value in
    let aside = map entry_of e.aside.items in
    let content = stream_of c.in_ok-content.content.value in
    let needed = c.saturating_sub-needed.result in
    let made = c.in_ok-referred.ensures.ok in
    let remembered = c.in_ok-end_evaluation.ensures ∙ ap (λ (r : Referred). (old ++ aside) ++ remembered_as e.name e.element needed content r.entered) (c.deref-3.ensures ∙ made) in
    evaluates_made c.args.came c.in_ok-outcome.outcome c.in_ok-referred.referred.value c.entered-entered.result c.deref.result.now.spare c.in_ok-held.held content e.name e.element
    c.args.levels needed aside old (old ++ aside)
    (entries_of c.end_evaluation.new.memo) c.in_ok-outcome.was made (ap (λ (o : Outcome). o.spare) c.deref.ensures) c.saturating_sub-needed.ensures
    (c.in_ok-content.ensures ∙ ap (λ (o : Outcome). (outcome_of o).content) c.deref-2.ensures) c.entered-entered.ensures
    (c.in_ok-held.ensures ∙ ap (λ (o : Outcome). held_by (outcome_of o)) c.into_inner.ensures) refl remembered
