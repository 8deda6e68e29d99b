use Rattle.std.proofs.Common.{refl}
use Rattle.xt_questions.proofs.Steps.{runs_then, runs_stop, runs_gives, runs_memory, exits}
use Rattle.xt_number.proofs.text.number_text.Goals as goal

pub returns-in_err-numbers-clause-runs : goal.returns-in_err-numbers-clause-runs
returns-in_err-numbers-clause-runs g c = exits _ c.from_residual.ensures.1 (runs_stop _ c.in_err-numbers.ensures.runs)

pub returns-in_err-format-clause-runs : goal.returns-in_err-format-clause-runs
returns-in_err-format-clause-runs g c = exits _ c.from_residual-in_err-format.ensures.1 (runs_then _ c.in_ok-numbers.ensures.runs (runs_stop _ c.in_err-format.ensures.runs))

pub returns-in_err-separator-clause-runs : goal.returns-in_err-separator-clause-runs
returns-in_err-separator-clause-runs g c = exits _ c.from_residual-in_err-separator.ensures.1 (runs_then _ c.in_ok-numbers.ensures.runs (runs_then _ c.in_ok-format.ensures.runs (runs_stop _ c.in_err-separator.ensures.runs)))

pub returns-in_err-size-clause-runs : goal.returns-in_err-size-clause-runs
returns-in_err-size-clause-runs g c = exits _ c.from_residual-in_err-size.ensures.1 (runs_then _ c.in_ok-numbers.ensures.runs (runs_then _ c.in_ok-format.ensures.runs (runs_then _ c.in_ok-separator.ensures.runs (runs_stop _ c.in_err-size.ensures.runs))))

pub returns-in_err-text-clause-runs : goal.returns-in_err-text-clause-runs
returns-in_err-text-clause-runs g c = exits _ c.from_residual-in_err-text.ensures.1 (runs_then _ c.in_ok-numbers.ensures.runs (runs_then _ c.in_ok-format.ensures.runs (runs_then _ c.in_ok-separator.ensures.runs (runs_then _ c.in_ok-size.ensures.runs (runs_memory refl refl)))))

pub returns-clause-runs : goal.returns-clause-runs
returns-clause-runs g c = runs_then _ c.in_ok-numbers.ensures.runs (runs_then _ c.in_ok-format.ensures.runs (runs_then _ c.in_ok-separator.ensures.runs (runs_then _ c.in_ok-size.ensures.runs (runs_gives (rw c.as_slice-list.ensures.value at (c.in_ok-text.ensures {u = tt}))))))
