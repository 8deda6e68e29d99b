use Rattle.spec_session.specs.Request.{Commit}
use Rattle.xt_session.proofs.Answering.{commits_so, if_ok_map, replies_if_adopted, replies_not_committed, stays_itself}
use Rattle.xt_session.proofs.changes.commit.Goals as goal

pub returns-in-Ok-clause-ok : goal.returns-in-Ok-clause-ok
returns-in-Ok-clause-ok c =
    replies_if_adopted _ Commit c.adopt.result (stays_itself c.args.held.now) (commits_so c.in-Ok.ensures.answer) c.in-Ok.ensures.brings c.in-Ok.ensures.tells
    c.adopt.ensures.ok c.adopt.ensures.past

pub returns-in-Err-Refused-clause-ok : goal.returns-in-Err-Refused-clause-ok
returns-in-Err-Refused-clause-ok c =
    let refused = rw c.in-Err-Refused.field-0-is at c.in-Err-Refused.ensures.answer in
    if_ok_map _ _ c.text_of.result (λ text e. replies_not_committed c.args.held.now _ refused.0 refused.1 e) c.text_of.ensures
