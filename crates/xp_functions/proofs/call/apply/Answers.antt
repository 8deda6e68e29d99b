use Rattle.xt_questions.proofs.Steps.{runs_refuse}
use Rattle.xp_functions.proofs.call.apply.Goals as goal

pub returns-in-None-clause-runs : goal.returns-in-None-clause-runs
returns-in-None-clause-runs g c = rw c.in-None.is runs_refuse

pub returns-in-Some-clause-runs : goal.returns-in-Some-clause-runs
returns-in-Some-clause-runs g c = rw c.in-Some.is (c.applied.ensures.runs)
