use Rattle.std.proofs.Common.{refl, ap, ◌∷◌, ◌∙◌}
use Rattle.std.specs.Option.{option_map}
use Rattle.spec_node.specs.Naming.{same_ref}
use Rattle.xt_syntax.specs.PartView.{pattern_of}
use Rattle.xt_questions.specs.View.{context_of}
use Rattle.xt_questions.proofs.Steps.{runs_then, runs_stop, runs_gives, runs_memory, exits}
use Rattle.xt_match.proofs.Together.{runs_as}
use Rattle.xt_number.proofs.Turns.{around_first}
use Rattle.xt_number.proofs.nodes.backward.Goals as goal

pub returns-in_err-around-clause-runs : goal.returns-in_err-around-clause-runs
returns-in_err-around-clause-runs g c =
    exits _ c.from_residual.ensures.1 (runs_as (around_first same_ref (context_of c.args.focus c.args.context.now) (option_map pattern_of c.args.from.now)) (runs_stop _ (c.in_err-around.ensures.runs _ _)))

pub returns-in_err-nearest-clause-runs : goal.returns-in_err-nearest-clause-runs
returns-in_err-nearest-clause-runs g c =
    exits _ c.from_residual-in_err-nearest.ensures.1
    (runs_as (around_first same_ref (context_of c.args.focus c.args.context.now) (option_map pattern_of c.args.from.now)) (runs_then _ (c.in_ok-around.ensures.runs _ _) (runs_stop _ (c.in_err-nearest.ensures.runs _ _))))

pub returns-in_err-after-clause-runs : goal.returns-in_err-after-clause-runs
returns-in_err-after-clause-runs g c =
    exits _ c.from_residual-in_err-after.ensures.1
    (runs_as (around_first same_ref (context_of c.args.focus c.args.context.now) (option_map pattern_of c.args.from.now)) (runs_then _ (c.in_ok-around.ensures.runs _ _) (runs_then _ (c.in_ok-nearest.ensures.runs _ _)
    (runs_stop _ (c.in_err-after.ensures.runs c.args.focus)))))

pub returns-in_err-with_front-clause-runs : goal.returns-in_err-with_front-clause-runs
returns-in_err-with_front-clause-runs g c =
    exits _ c.from_residual-in_err-with_front.ensures.1
    (runs_as (around_first same_ref (context_of c.args.focus c.args.context.now) (option_map pattern_of c.args.from.now)) (runs_then _ (c.in_ok-around.ensures.runs _ _) (runs_then _ (c.in_ok-nearest.ensures.runs _ _)
    (runs_then _ (c.in_ok-after.ensures.runs c.args.focus) (runs_memory refl refl)))))

pub returns-clause-runs : goal.returns-clause-runs
returns-clause-runs g c =
    runs_as (around_first same_ref (context_of c.args.focus c.args.context.now) (option_map pattern_of c.args.from.now)) (runs_then _ (c.in_ok-around.ensures.runs _ _) (runs_then _ (c.in_ok-nearest.ensures.runs _ _)
    (runs_then _ (c.in_ok-after.ensures.runs c.args.focus)
    (runs_gives ((c.in_ok-with_front.ensures {u = tt}) ∙ ap (λ ns. c.args.focus.node ∷ ns) c.as_slice.ensures.value)))))
