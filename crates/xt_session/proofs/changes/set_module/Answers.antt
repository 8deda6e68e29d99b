use Rattle.std.proofs.Common.{ℕ, true, ◌∙◌, ap, sym}
use Rattle.spec_document.specs.Document.{document_of}
use Rattle.spec_document.specs.Scope.{root_scope}
use Rattle.spec_run.specs.Documents.{with_module}
use Rattle.spec_session.specs.Machine.{kept_by}
use Rattle.spec_session.specs.Request.{SetModule}
use Rattle.spec_cost.specs.Numbers.{given_module}
use Rattle.xt_held.specs.PastView.{numbers_of}
use Rattle.xt_session.specs.State.{state_of}
use Rattle.xt_session.proofs.Answering.{brings_from, if_ok_map, kept_so, on_err_then, replies_if_adopted, replies_refusal, stays_kept}
use Rattle.xt_session.proofs.changes.set_module.Goals as goal

pub returns-in-Ok-clause-ok : goal.returns-in-Ok-clause-ok
returns-in-Ok-clause-ok c =
    let name = c.args.name.now in
    let body = c.args.body.now in
    let kept = c.in-Ok.ensures.kept in
    let made = c.in-Ok.ensures.answer in
    let held = c.set_module.new.self in
    let brings = brings_from (λ first. given_module name (document_of root_scope first body) (numbers_of held)) true held c.in-Ok.ready
    _ _ (sym kept.made) c.in-Ok.ensures.brings in
    replies_if_adopted _ (SetModule name body) c.adopt.result (stays_kept kept c.in-Ok.ensures.past)
    (kept_so (with_module name) _ made.0 (ap (λ (first : ℕ). document_of root_scope first body) kept.made ∙ made.1) made.2)
    brings c.in-Ok.ensures.tells c.adopt.ensures.ok c.adopt.ensures.past

pub returns-in-Ok-clause-err : goal.returns-in-Ok-clause-err
returns-in-Ok-clause-err c = on_err_then c.adopt.result _ (stays_kept c.in-Ok.ensures.kept c.in-Ok.ensures.past) c.adopt.ensures.err

pub returns-in-Err-Refused-clause-ok : goal.returns-in-Err-Refused-clause-ok
returns-in-Err-Refused-clause-ok c =
    let name = c.args.name.now in
    let body = c.args.body.now in
    let kept = c.in-Err-Refused.ensures.kept in
    let fault = rw c.in-Err-Refused.field-0-is at c.in-Err-Refused.ensures.answer in
    if_ok_map _ _ c.text_of.result
    (λ text e. replies_refusal (SetModule name body) _ (stays_kept kept c.in-Err-Refused.ensures.past)
    (ap (kept_by (with_module name) (state_of c.set_module.new.self)) (ap (λ (first : ℕ). document_of root_scope first body) kept.made ∙ fault)) e)
    c.text_of.ensures
