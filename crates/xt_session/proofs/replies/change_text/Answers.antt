use Rattle.xt_session.proofs.replies.change_text.Goals as goal

pub returns : goal.returns
returns c = rw c.in_ok-reply.ensures at c.text_of.ensures
