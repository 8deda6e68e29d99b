use Rattle.xt_questions.proofs.Steps.{runs_then, runs_stop, exits}
use Rattle.xp_values.proofs.Faults.{given_so}
use Rattle.xt_number.proofs.levels.number_among.Goals as goal

pub returns-in_err-before-clause-runs : goal.returns-in_err-before-clause-runs
returns-in_err-before-clause-runs g c f = exits _ c.from_residual.ensures.1 (runs_stop _ (c.in_err-before.ensures.runs _ _))

pub returns-in_err-count-clause-runs : goal.returns-in_err-count-clause-runs
returns-in_err-count-clause-runs g c f =
    exits _ c.from_residual-in_err-count.ensures.1
    (runs_then _ (c.in_ok-before.ensures.runs _ _) (runs_stop _ (rw c.as_slice-nodes.ensures.value at (c.in_err-count.ensures.runs f))))

pub returns-clause-runs : goal.returns-clause-runs
returns-clause-runs g c f =
    runs_then _ (c.in_ok-before.ensures.runs _ _) (runs_then _ (rw c.as_slice-nodes.ensures.value at (c.in_ok-count.ensures.runs f))
    (given_so _ _ c.whole.ensures (c.given.ensures _ _ _)))
