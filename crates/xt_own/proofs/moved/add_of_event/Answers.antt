use Rattle.xt_own.proofs.moved.add_of_event.Goals as goal

pub returns-in-Asked-clause-decided : goal.returns-in-Asked-clause-decided
returns-in-Asked-clause-decided c = c.add_if_wanted.ensures.decided
