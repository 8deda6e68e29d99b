use Rattle.std.proofs.Common.{refl, ap, ◌∷◌, ◌∙◌}
use Rattle.xt_questions.proofs.Steps.{runs_then, runs_stop, runs_gives, runs_memory, exits}
use Rattle.xt_number.proofs.nodes.upward.Goals as goal

pub returns-in_err-above-clause-runs : goal.returns-in_err-above-clause-runs
returns-in_err-above-clause-runs g c = exits _ c.from_residual.ensures.1 (runs_stop _ (c.in_err-above.ensures.runs _ _))

pub returns-in_err-below-clause-runs : goal.returns-in_err-below-clause-runs
returns-in_err-below-clause-runs g c =
    exits _ c.from_residual-in_err-below.ensures.1 (runs_then _ (c.in_ok-above.ensures.runs _ _) (runs_stop _ (c.in_err-below.ensures.runs c.args.focus)))

pub returns-in_err-with_front-clause-runs : goal.returns-in_err-with_front-clause-runs
returns-in_err-with_front-clause-runs g c =
    exits _ c.from_residual-in_err-with_front.ensures.1
    (runs_then _ (c.in_ok-above.ensures.runs _ _) (runs_then _ (c.in_ok-below.ensures.runs c.args.focus) (runs_memory refl refl)))

pub returns-clause-runs : goal.returns-clause-runs
returns-clause-runs g c =
    runs_then _ (c.in_ok-above.ensures.runs _ _) (runs_then _ (c.in_ok-below.ensures.runs c.args.focus)
    (runs_gives ((c.in_ok-with_front.ensures {u = tt}) ∙ ap (λ ns. c.args.focus.node ∷ ns) c.as_slice.ensures.value)))
