use Rattle.std.proofs.Common.{refl, ap, ◌++◌, ◌∙◌}
use Rattle.xt_questions.proofs.Steps.{runs_then, runs_stop, runs_gives, runs_memory, exits}
use Rattle.xt_number.proofs.nodes.around.Goals as goal

pub returns-in_err-above-clause-runs : goal.returns-in_err-above-clause-runs
returns-in_err-above-clause-runs g c supply depth = exits _ c.from_residual.ensures.1 (runs_stop _ (c.in_err-above.ensures.runs _ _))

pub returns-in_err-before-clause-runs : goal.returns-in_err-before-clause-runs
returns-in_err-before-clause-runs g c supply depth =
    exits _ c.from_residual-in_err-before.ensures.1 (runs_then _ (c.in_ok-above.ensures.runs _ _) (runs_stop _ (c.in_err-before.ensures.runs _ _)))

pub returns-in_err-extend_from_slice-clause-runs : goal.returns-in_err-extend_from_slice-clause-runs
returns-in_err-extend_from_slice-clause-runs g c supply depth =
    exits _ c.from_residual-in_err-extend_from_slice.ensures.1
    (runs_then _ (c.in_ok-above.ensures.runs _ _) (runs_then _ (c.in_ok-before.ensures.runs _ _) (runs_memory refl refl)))

pub returns-clause-runs : goal.returns-clause-runs
returns-clause-runs g c supply depth =
    runs_then _ (c.in_ok-above.ensures.runs _ _) (runs_then _ (c.in_ok-before.ensures.runs _ _)
    (runs_gives (c.in_ok-extend_from_slice.ensures.items ∙ ap (λ ns. c.in_ok-above.above.items ++ ns) c.as_slice.ensures.value)))
