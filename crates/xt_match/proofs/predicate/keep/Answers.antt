use Rattle.std.proofs.Common.{refl, ap}
use Rattle.spec_transform.specs.Match.{keep}
use Rattle.spec_node.specs.Naming.{same_ref}
use Rattle.xt_questions.specs.View.{context_of}
use Rattle.xt_questions.proofs.Steps.{runs_gives}
use Rattle.xt_match.proofs.Together.{runs_as}
use Rattle.xt_match.proofs.Views.{no_exprs_left, last_expr}
use Rattle.xt_match.proofs.predicate.keep.Goals as goal

pub returns-in-None-clause-runs : goal.returns-in-None-clause-runs
returns-in-None-clause-runs g c f = rw (no_exprs_left c.args.predicates.now c.in-None.ensures.cases) (runs_gives refl)

pub returns-in-Some-clause-runs : goal.returns-in-Some-clause-runs
returns-in-Some-clause-runs g c f =
    runs_as (ap (λ es. keep same_ref (context_of f c.args.context.now) c.args.node es c.args.nodes.items) (last_expr c.args.predicates.now c.in-Some.before.now c.in-Some.last.now c.in-Some.ensures.cases.0)) (c.keep_at_last.ensures.runs f)
