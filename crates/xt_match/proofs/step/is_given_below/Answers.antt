use Rattle.std.proofs.Common.{refl}
use Rattle.spec_node.specs.Naming.{same_ref}
use Rattle.xt_questions.specs.View.{context_of}
use Rattle.xt_questions.proofs.Steps.{runs_then, runs_stop, runs_memory, exits}
use Rattle.xt_match.proofs.Together.{runs_as}
use Rattle.xt_match.proofs.Turns.{given_below}
use Rattle.xt_match.proofs.step.is_given_below.Goals as goal

pub returns-in_err-test-clause-runs : goal.returns-in_err-test-clause-runs
returns-in_err-test-clause-runs g c f = exits _ c.from_residual.ensures.1 (runs_memory refl refl)

pub returns-in_err-siblings-clause-runs : goal.returns-in_err-siblings-clause-runs
returns-in_err-siblings-clause-runs g c f =
    let program = given_below same_ref (context_of f c.args.context.now) c.args.step.now c.args.node c.args.parent (c.in_ok-test.ensures {u = tt}) in
    exits _ c.from_residual-in_err-siblings.ensures.1 (runs_as program (runs_stop _ (c.in_err-siblings.ensures.runs _ _)))

pub returns-clause-runs : goal.returns-clause-runs
returns-clause-runs g c f =
    let program = given_below same_ref (context_of f c.args.context.now) c.args.step.now c.args.node c.args.parent (c.in_ok-test.ensures {u = tt}) in
    runs_as program (runs_then _ (c.in_ok-siblings.ensures.runs _ _) (rw c.as_slice-predicates.ensures.value at (c.keep.ensures.runs f)))
