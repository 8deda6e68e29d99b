use Rattle.std.proofs.Common.{refl}
use Rattle.xt_questions.proofs.Steps.{runs_then, runs_stop, runs_gives, exits}
use Rattle.xp_functions.proofs.value.number.Goals as goal

pub returns-in_err-number-clause-runs : goal.returns-in_err-number-clause-runs
returns-in_err-number-clause-runs g c supply depth = exits _ c.from_residual.ensures.1 (runs_stop _ (c.in_err-number.ensures.runs supply depth))

pub returns-clause-runs : goal.returns-clause-runs
returns-clause-runs g c supply depth = runs_then _ (c.in_ok-number.ensures.runs supply depth) (runs_gives refl)
