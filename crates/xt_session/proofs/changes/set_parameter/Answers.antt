use Rattle.std.proofs.Common.{ap}
use Rattle.spec_session.specs.Machine.{given_by}
use Rattle.spec_session.specs.Request.{SetParameter}
use Rattle.xt_session.specs.State.{state_of}
use Rattle.xt_session.proofs.Answering.{given_so, if_ok_map, on_err_then, replies_if_adopted, replies_refusal, stays_kept}
use Rattle.xt_session.proofs.changes.set_parameter.Goals as goal

pub returns-in-Ok-clause-ok : goal.returns-in-Ok-clause-ok
returns-in-Ok-clause-ok c =
    let name = c.args.name.now in
    let value = c.args.value.now in
    let made = c.in-Ok.ensures.answer in
    replies_if_adopted _ (SetParameter name value) c.adopt.result (stays_kept c.in-Ok.ensures.kept c.in-Ok.ensures.past) (given_so name value made.0 made.1)
    c.in-Ok.ensures.brings c.in-Ok.ensures.tells c.adopt.ensures.ok c.adopt.ensures.past

pub returns-in-Ok-clause-err : goal.returns-in-Ok-clause-err
returns-in-Ok-clause-err c = on_err_then c.adopt.result _ (stays_kept c.in-Ok.ensures.kept c.in-Ok.ensures.past) c.adopt.ensures.err

pub returns-in-Err-Refused-clause-ok : goal.returns-in-Err-Refused-clause-ok
returns-in-Err-Refused-clause-ok c =
    let name = c.args.name.now in
    let value = c.args.value.now in
    let fault = rw c.in-Err-Refused.field-0-is at c.in-Err-Refused.ensures.answer in
    if_ok_map _ _ c.text_of.result
    (λ text e. replies_refusal (SetParameter name value) _ (stays_kept c.in-Err-Refused.ensures.kept c.in-Err-Refused.ensures.past)
    (ap (given_by name value (state_of c.set_param.new.self)) fault.0) e) c.text_of.ensures
