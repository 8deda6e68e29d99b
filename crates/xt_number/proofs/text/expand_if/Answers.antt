use Rattle.std.proofs.Common.{refl}
use Rattle.xt_questions.proofs.Steps.{runs_then, runs_stop, runs_gives, exits}
use Rattle.xt_number.proofs.text.expand_if.Goals as goal

pub returns-in-None-clause-runs : goal.returns-in-None-clause-runs
returns-in-None-clause-runs g c = rw c.in-None.is (runs_gives refl)

pub returns-in_err-text-in-Some-clause-runs : goal.returns-in_err-text-in-Some-clause-runs
returns-in_err-text-in-Some-clause-runs g c =
    rw c.in-Some.is (exits _ c.from_residual.ensures.1 (runs_stop _ c.in_err-text-in-Some.ensures.runs))

pub returns-in_ok-text-in-Some-clause-runs : goal.returns-in_ok-text-in-Some-clause-runs
returns-in_ok-text-in-Some-clause-runs g c = rw c.in-Some.is (runs_then _ c.in_ok-text-in-Some.ensures.runs (runs_gives refl))
