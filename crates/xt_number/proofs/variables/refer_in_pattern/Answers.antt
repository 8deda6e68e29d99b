use Rattle.std.proofs.Common.{refl}
use Rattle.xt_questions.proofs.Steps.{runs_gives}
use Rattle.xt_number.proofs.variables.refer_in_pattern.Goals as goal

pub returns-in-None-clause-runs : goal.returns-in-None-clause-runs
returns-in-None-clause-runs g c = rw c.in-None.is (runs_gives refl)

pub returns-in-Some-clause-runs : goal.returns-in-Some-clause-runs
returns-in-Some-clause-runs g c = rw (c.in-Some.is, ← c.as_slice-alternatives.ensures.value) c.refer_in_alternatives.ensures.runs
