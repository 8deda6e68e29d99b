use Rattle.std.proofs.Common.{refl}
use Rattle.xt_questions.proofs.Steps.{runs_then, runs_stop, runs_gives, exits}
use Rattle.xp_values.proofs.operation.unite.Goals as goal

pub returns-in-Err-clause-runs : goal.returns-in-Err-clause-runs
returns-in-Err-clause-runs g c supply depth = runs_stop _ (c.in-Err.ensures supply depth _)

pub returns-in_err-more-clause-runs : goal.returns-in_err-more-clause-runs
returns-in_err-more-clause-runs g c supply depth =
    exits _ c.from_residual.ensures.1 (runs_then _ (c.in-Ok.ensures supply depth _) (runs_stop _ (c.in_err-more.ensures supply depth _)))

pub returns-in_err-ordered-clause-runs : goal.returns-in_err-ordered-clause-runs
returns-in_err-ordered-clause-runs g c supply depth =
    let asked = rw (c.in_ok-extend_from_slice.ensures.items, c.as_slice.ensures.value) at (c.in_err-ordered.ensures.runs supply depth) in
    exits _ c.from_residual-in_err-ordered.ensures.1
    (runs_then _ (c.in-Ok.ensures supply depth _) (runs_then _ (c.in_ok-more.ensures supply depth _) (runs_stop _ asked)))

pub returns-clause-runs : goal.returns-clause-runs
returns-clause-runs g c supply depth =
    let asked = rw (c.in_ok-extend_from_slice.ensures.items, c.as_slice.ensures.value) at (c.in_ok-ordered.ensures.runs supply depth) in
    runs_then _ (c.in-Ok.ensures supply depth _) (runs_then _ (c.in_ok-more.ensures supply depth _) (runs_then _ asked (runs_gives refl)))
