use Rattle.std.proofs.Common.{refl, ◌∙◌, arith}
use Rattle.spec_transform.specs.Match.{holds_of_one, is_given_below}
use Rattle.spec_node.specs.Naming.{same_ref}
use Rattle.xt_syntax.specs.View.{step_of}
use Rattle.xt_questions.specs.View.{context_of}
use Rattle.xt_questions.proofs.Steps.{runs_then, runs_stop, runs_gives, runs_from, goes_on, next_turn, exits}
use Rattle.xt_match.proofs.step.is_given_by_one.Goals as goal

pub returns-in_err-is_given-clause-runs : goal.returns-in_err-is_given-clause-runs
returns-in_err-is_given-clause-runs g c f =
    let turn = next_turn (holds_of_one (is_given_below same_ref (context_of f c.args.context.now) (step_of c.args.step.now) c.args.node)) c.args.parents.now c.loop-parent.parent-index _ (omega arith) (c.loop-parent.invariant.same f) in
    exits _ c.from_residual.ensures.1 (runs_from turn (runs_stop _ (c.in_err-is_given.ensures.runs f)))

pub returns-then-is_given-clause-runs : goal.returns-then-is_given-clause-runs
returns-then-is_given-clause-runs g c f =
    let turn = next_turn (holds_of_one (is_given_below same_ref (context_of f c.args.context.now) (step_of c.args.step.now) c.args.node)) c.args.parents.now c.loop-parent.parent-index _ (omega arith) (c.loop-parent.invariant.same f) in
    runs_from turn (runs_then _ (c.in_ok-is_given.ensures.runs f) (rw c.if-is_given.true (runs_gives refl)))

pub loop-parent-preserved : goal.loop-parent-preserved
loop-parent-preserved g c =
    record {
      same = λ f.
          let turn = next_turn (holds_of_one (is_given_below same_ref (context_of f c.args.context.now) (step_of c.args.step.now) c.args.node)) c.args.parents.now c.loop-parent.parent-index _ (omega arith) (c.loop-parent.invariant.same f) in
          let on = goes_on _ turn (c.in_ok-is_given.ensures.runs f) in
          rw c.if-is_given.false at on;
      name = c.is_given_below.ensures.name ∙ c.loop-parent.invariant.name;
    }
