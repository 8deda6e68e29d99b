use Rattle.std.proofs.Common.{refl}
use Rattle.xt_questions.proofs.Steps.{runs_then, runs_stop, runs_gives, runs_memory, exits}
use Rattle.xp_values.proofs.Faults.{given_so}
use Rattle.xt_number.proofs.levels.of_count.Goals as goal

pub returns-in_err-count-clause-runs : goal.returns-in_err-count-clause-runs
returns-in_err-count-clause-runs g c f = exits _ c.from_residual.ensures.1 (runs_stop _ (c.in_err-count.ensures.runs f))

pub returns-in_err-number-clause-runs : goal.returns-in_err-number-clause-runs
returns-in_err-number-clause-runs g c f =
    exits _ c.from_residual-in_err-number.ensures.1
    (runs_then _ (c.in_ok-count.ensures.runs f) (runs_stop _ (given_so _ _ c.whole.ensures (c.in_err-number.ensures _ _ _))))

pub returns-in_err-only-clause-runs : goal.returns-in_err-only-clause-runs
returns-in_err-only-clause-runs g c f =
    exits _ c.from_residual-in_err-only.ensures.1
    (runs_then _ (c.in_ok-count.ensures.runs f) (runs_then _ (given_so _ _ c.whole.ensures (c.in_ok-number.ensures _ _ _)) (runs_memory refl refl)))

pub returns-clause-runs : goal.returns-clause-runs
returns-clause-runs g c f =
    runs_then _ (c.in_ok-count.ensures.runs f) (runs_then _ (given_so _ _ c.whole.ensures (c.in_ok-number.ensures _ _ _))
    (runs_gives (c.in_ok-only.ensures {u = tt})))
