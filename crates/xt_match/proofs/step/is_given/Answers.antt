use Rattle.spec_document.specs.declared.axis.Axis.TheVariants as axis
use Rattle.spec_expression.specs.declared.NodeType.TheVariants as type
use Rattle.spec_expression.specs.Syntax.{OfType}
use Rattle.spec_meaning.specs.Question as question
use Rattle.spec_meaning.specs.Question.{nodes_in}
use Rattle.spec_transform.specs.Match.{holds_of_one, is_given_below}
use Rattle.spec_node.specs.Naming.{same_ref}
use Rattle.xt_syntax.specs.View.{step_of}
use Rattle.xt_questions.specs.View.{context_of}
use Rattle.xt_questions.proofs.Steps.{runs_then, runs_stop, exits}
use Rattle.xt_match.proofs.Together.{runs_as, ask_then}
use Rattle.xt_match.proofs.step.is_given.Goals as goal

pub returns-in_err-parents-clause-runs : goal.returns-in_err-parents-clause-runs
returns-in_err-parents-clause-runs g c f =
    let program = ask_then (question.Step c.args.node axis.Parent (OfType type.Node)) nodes_in (holds_of_one (is_given_below same_ref (context_of f c.args.context.now) (step_of c.args.step.now) c.args.node)) in
    exits _ c.from_residual.ensures.1 (runs_as program (runs_stop _ (c.in_err-parents.ensures.runs _ _)))

pub returns-clause-runs : goal.returns-clause-runs
returns-clause-runs g c f =
    let program = ask_then (question.Step c.args.node axis.Parent (OfType type.Node)) nodes_in (holds_of_one (is_given_below same_ref (context_of f c.args.context.now) (step_of c.args.step.now) c.args.node)) in
    runs_as program (runs_then _ (c.in_ok-parents.ensures.runs _ _) (rw c.as_slice.ensures.value at (c.is_given_by_one.ensures.runs f)))
