use Rattle.std.proofs.Common.{◌∙◌, ap}
use Rattle.spec_session.specs.Machine.{result_reply}
use Rattle.xt_held.specs.View.{outcome_in}
use Rattle.xt_wire.specs.View.{reply_of}
use Rattle.xt_session.proofs.Answering.{if_ok_map, replies_result}
use Rattle.xt_session.proofs.answer.show.Goals as goal

pub returns : goal.returns
returns c =
    let held = c.args.held.now in
    if_ok_map _ _ c.text_of.result
    (λ text e. replies_result held (outcome_in held) (reply_of c.in_ok-reply.reply) c.requires.outcome
    (c.in_ok-reply.ensures ∙ ap result_reply c.outcome.ensures) e) c.text_of.ensures
