use Rattle.xt_session.proofs.Answering.{if_ok_map, replies_begun, replies_not_begun}
use Rattle.xt_session.proofs.changes.begin.Goals as goal

pub returns-in-Ok-clause-ok : goal.returns-in-Ok-clause-ok
returns-in-Ok-clause-ok c = replies_begun c.in-Ok.ensures.answer c.in-Ok.ensures.past c.in_ok-text.ensures

pub returns-in-Err-Refused-clause-ok : goal.returns-in-Err-Refused-clause-ok
returns-in-Err-Refused-clause-ok c =
    let refused = rw c.in-Err-Refused.field-0-is at c.in-Err-Refused.ensures.answer in
    if_ok_map _ _ c.text_of-in-Err-Refused.result
    (λ text e. replies_not_begun _ refused.0 refused.1 refused.2 c.in-Err-Refused.ensures.past e) c.text_of-in-Err-Refused.ensures
