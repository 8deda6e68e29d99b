use Rattle.xp_parse.proofs.Calls.{exits}
use Rattle.xt_pattern.proofs.Steps.{relative_from, relative_fail}
use Rattle.xt_pattern.proofs.descent.relative.Goals as goal

pub returns-in_err-step-clause-answer : goal.returns-in_err-step-clause-answer
returns-in_err-step-clause-answer c = exits _ c.from_residual.ensures.1 c.in_err-step.ensures.answer (λ n. relative_fail n)

pub returns-clause-answer : goal.returns-clause-answer
returns-clause-answer c =
    relative_from c.further_steps.result c.in_ok-step.ensures.answer.answer
    (rw (c.in_ok-push.ensures.items, c.new-steps.ensures.items) at c.further_steps.ensures.answer)
