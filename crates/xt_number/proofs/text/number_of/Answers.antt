use Rattle.std.proofs.Common.{refl}
use Rattle.xt_questions.proofs.Steps.{runs_then, runs_stop, runs_gives, runs_memory, exits}
use Rattle.xt_number.proofs.text.number_of.Goals as goal

pub returns-in_err-value-clause-runs : goal.returns-in_err-value-clause-runs
returns-in_err-value-clause-runs g c = exits _ c.from_residual.ensures.1 (runs_stop _ c.in_err-value.ensures.runs)

pub returns-in_err-number-clause-runs : goal.returns-in_err-number-clause-runs
returns-in_err-number-clause-runs g c =
    exits _ c.from_residual-in_err-number.ensures.1 (runs_then _ c.in_ok-value.ensures.runs (runs_stop _ (c.in_err-number.ensures.runs _ _)))

pub returns-in_err-only-clause-runs : goal.returns-in_err-only-clause-runs
returns-in_err-only-clause-runs g c =
    exits _ c.from_residual-in_err-only.ensures.1
    (runs_then _ c.in_ok-value.ensures.runs (runs_then _ (c.in_ok-number.ensures.runs _ _) (runs_memory refl refl)))

pub returns-clause-runs : goal.returns-clause-runs
returns-clause-runs g c =
    runs_then _ c.in_ok-value.ensures.runs (runs_then _ (c.in_ok-number.ensures.runs _ _) (runs_gives (c.in_ok-only.ensures {u = tt})))
