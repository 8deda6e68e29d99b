use Rattle.std.proofs.Common.{ap}
use Rattle.spec_document.specs.Document.{document_of}
use Rattle.spec_document.specs.Scope.{root_scope}
use Rattle.spec_run.specs.Documents.{with_source}
use Rattle.spec_session.specs.Machine.{kept_by}
use Rattle.spec_session.specs.Request.{SetSource}
use Rattle.xt_held.specs.View.{made_of}
use Rattle.xt_session.specs.State.{state_of}
use Rattle.xt_session.proofs.Answering.{if_ok_map, kept_so, replies_if_adopted, replies_refusal, stays_itself}
use Rattle.xt_session.proofs.changes.set_source.Goals as goal

pub returns-in-Ok-clause-ok : goal.returns-in-Ok-clause-ok
returns-in-Ok-clause-ok c =
    let held = c.args.held.now in
    let body = c.args.body.now in
    let made = c.in-Ok.ensures.answer in
    replies_if_adopted _ (SetSource body) c.adopt.result (stays_itself held)
    (kept_so with_source (document_of root_scope (made_of held) body) made.0 made.1 made.2) c.in-Ok.ensures.brings c.in-Ok.ensures.tells c.adopt.ensures.ok c.adopt.ensures.past

pub returns-in-Err-Refused-clause-ok : goal.returns-in-Err-Refused-clause-ok
returns-in-Err-Refused-clause-ok c =
    let held = c.args.held.now in
    let fault = rw c.in-Err-Refused.field-0-is at c.in-Err-Refused.ensures.answer in
    if_ok_map _ _ c.text_of.result
    (λ text e. replies_refusal (SetSource c.args.body.now) _ (stays_itself held) (ap (kept_by with_source (state_of held)) fault) e) c.text_of.ensures
