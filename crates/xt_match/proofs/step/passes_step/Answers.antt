use Rattle.std.proofs.Common.{refl, sym, ◌∙◌}
use Rattle.spec_node.specs.Naming.{same_ref}
use Rattle.xt_questions.specs.View.{answer_of, context_of}
use Rattle.xt_questions.proofs.Steps.{runs_gives}
use Rattle.xt_match.proofs.Views.{passes_so}
use Rattle.xt_match.proofs.step.passes_step.Goals as goal

pub returns-then-passes-clause-runs : goal.returns-then-passes-clause-runs
returns-then-passes-clause-runs g c f =
    rw (passes_so same_ref (context_of f c.args.context.now) c.args.step.now c.args.node (answer_of c.args.called.now) (sym c.if-passes.true ∙ c.passes.ensures)) (c.passes_predicates.ensures.runs f)

pub returns-else-passes-clause-runs : goal.returns-else-passes-clause-runs
returns-else-passes-clause-runs g c f =
    rw (passes_so same_ref (context_of f c.args.context.now) c.args.step.now c.args.node (answer_of c.args.called.now) (sym c.if-passes.false ∙ c.passes.ensures)) (runs_gives refl)
