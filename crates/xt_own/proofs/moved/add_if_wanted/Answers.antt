use Rattle.xt_own.proofs.moved.add_if_wanted.Goals as goal

pub returns-clause-decided : goal.returns-clause-decided
returns-clause-decided c = c.add_once.ensures.decided
