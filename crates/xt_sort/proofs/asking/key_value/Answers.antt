use Rattle.xt_questions.proofs.Steps.{runs_then, runs_stop, exits}
use Rattle.xt_sort.proofs.asking.key_value.Goals as goal

pub returns-in_err-value-clause-runs : goal.returns-in_err-value-clause-runs
returns-in_err-value-clause-runs g c = exits _ c.from_residual.ensures.1 (runs_stop _ c.in_err-value.ensures.runs)

pub returns-in_err-text-clause-runs : goal.returns-in_err-text-clause-runs
returns-in_err-text-clause-runs g c =
    exits _ c.from_residual-in_err-text.ensures.1 (runs_then _ c.in_ok-value.ensures.runs (runs_stop _ (c.in_err-text.ensures.runs _ _)))

pub returns-clause-runs : goal.returns-clause-runs
returns-clause-runs g c =
    runs_then _ c.in_ok-value.ensures.runs (runs_then _ (c.in_ok-text.ensures.runs _ _) (c.key_of_text.ensures _ _ _))
