use Rattle.std.proofs.Common.{refl}
use Rattle.xt_questions.proofs.Steps.{runs_then, runs_stop, runs_gives, exits}
use Rattle.xt_sort.proofs.asking.criterion.Goals as goal

pub returns-in_err-is_number-clause-runs : goal.returns-in_err-is_number-clause-runs
returns-in_err-is_number-clause-runs g c = exits _ c.from_residual.ensures.1 (runs_stop _ c.in_err-is_number.ensures.runs)

pub returns-in_err-descends-clause-runs : goal.returns-in_err-descends-clause-runs
returns-in_err-descends-clause-runs g c =
    exits _ c.from_residual-in_err-descends.ensures.1 (runs_then _ c.in_ok-is_number.ensures.runs (runs_stop _ c.in_err-descends.ensures.runs))

pub returns-clause-runs : goal.returns-clause-runs
returns-clause-runs g c = runs_then _ c.in_ok-is_number.ensures.runs (runs_then _ c.in_ok-descends.ensures.runs (runs_gives refl))
