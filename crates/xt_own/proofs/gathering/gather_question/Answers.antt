use Rattle.xt_own.proofs.gathering.gather_question.Goals as goal

pub returns-clause-decided : goal.returns-clause-decided
returns-clause-decided c = c.gather_choice.ensures.decided
