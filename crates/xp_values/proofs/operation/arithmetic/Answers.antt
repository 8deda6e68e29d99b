use Rattle.std.proofs.Common.{refl}
use Rattle.xt_questions.proofs.Steps.{runs_then, runs_stop, runs_gives, exits}
use Rattle.xp_values.proofs.Faults.{given_so}
use Rattle.xp_values.proofs.operation.arithmetic.Goals as goal

pub returns-in_err-first-clause-runs : goal.returns-in_err-first-clause-runs
returns-in_err-first-clause-runs g c supply depth = exits _ c.from_residual.ensures.1 (runs_stop _ (c.in_err-first.ensures.runs supply depth))

pub returns-in_err-second-clause-runs : goal.returns-in_err-second-clause-runs
returns-in_err-second-clause-runs g c supply depth =
    exits _ c.from_residual-in_err-second.ensures.1
    (runs_then _ (c.in_ok-first.ensures.runs supply depth) (runs_stop _ (c.in_err-second.ensures.runs supply depth)))

pub returns-in_err-number-clause-runs : goal.returns-in_err-number-clause-runs
returns-in_err-number-clause-runs g c supply depth =
    exits _ c.from_residual-in_err-number.ensures.1
    (runs_then _ (c.in_ok-first.ensures.runs supply depth)
    (runs_then _ (c.in_ok-second.ensures.runs supply depth) (runs_stop _ (given_so _ _ c.compute.ensures (c.in_err-number.ensures supply depth _)))))

pub returns-clause-runs : goal.returns-clause-runs
returns-clause-runs g c supply depth =
    runs_then _ (c.in_ok-first.ensures.runs supply depth)
    (runs_then _ (c.in_ok-second.ensures.runs supply depth)
    (runs_then _ (given_so _ _ c.compute.ensures (c.in_ok-number.ensures supply depth _)) (runs_gives refl)))
