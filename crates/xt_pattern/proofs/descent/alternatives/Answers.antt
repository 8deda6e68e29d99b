use Rattle.xp_parse.proofs.Calls.{exits}
use Rattle.xt_pattern.proofs.Alternatives.{alternatives_from, alternatives_fail}
use Rattle.xt_pattern.proofs.descent.alternatives.Goals as goal

pub returns-in_err-first-clause-answer : goal.returns-in_err-first-clause-answer
returns-in_err-first-clause-answer c = exits _ c.from_residual.ensures.1 c.in_err-first.ensures.answer (λ n. alternatives_fail n)

pub returns-clause-answer : goal.returns-clause-answer
returns-clause-answer c =
    alternatives_from c.others.result c.in_ok-first.ensures.answer.answer
    (rw (c.in_ok-push.ensures.items, c.new-alternatives.ensures.items) at c.others.ensures.answer)
