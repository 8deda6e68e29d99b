use Rattle.xt_own.proofs.gathering.gather_event.Goals as goal

pub returns-in-Asked-clause-decided : goal.returns-in-Asked-clause-decided
returns-in-Asked-clause-decided c = c.gather_question.ensures.decided
