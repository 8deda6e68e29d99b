use Rattle.xt_frames.proofs.Lefts.{if_ok}
use Rattle.xt_runner.proofs.frames.next_call.Goals as goal

pub returns-clause-call : goal.returns-clause-call
returns-clause-call g c =
    if_ok c.call_of_choice.result c.call_of_choice.ensures (λ call h.
    rw (c.into_rule-rule.ensures, c.in_ok-answer.ensures.answer, c.in_ok-mode.ensures, c.in_ok-parameters.ensures, c.as_slice.ensures.value) at h)
