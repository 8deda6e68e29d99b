use Rattle.std.proofs.Common.{◌+◌, ◌++◌, ◌∷◌, [], map, drop, ◌∙◌, arith}
use Rattle.spec_expression.specs.Syntax.{exprs}
use Rattle.spec_transform.specs.Match.{keep}
use Rattle.spec_node.specs.Naming.{same_ref}
use Rattle.xt_syntax.specs.View.{expr_of}
use Rattle.xt_questions.specs.View.{context_of}
use Rattle.xt_questions.proofs.Steps.{runs_stop, runs_from, goes_on, next_turn, last_turn, exits}
use Rattle.xt_match.proofs.Together.{continues_as}
use Rattle.xt_match.proofs.Turns.{keep_turn}
use Rattle.xt_match.proofs.predicate.keep_at_last.Goals as goal

pub returns-in_err-rest-clause-runs : goal.returns-in_err-rest-clause-runs
returns-in_err-rest-clause-runs g c f =
    let next = next_turn (λ es. keep same_ref (context_of f c.args.context.now) c.args.node (exprs (map expr_of es ++ expr_of c.args.last.now ∷ [])) c.loop-predicate.rest.items) c.args.before.now c.loop-predicate.predicate-index c.predicate-item.result (omega arith) (c.loop-predicate.invariant.same f) in
    let turn = continues_as (keep_turn same_ref (context_of f c.args.context.now) c.args.node _ (drop (c.loop-predicate.predicate-index + 1) c.args.before.now) c.args.last.now c.loop-predicate.rest.items) (rw (← c.predicate-item.is) at next) in
    exits _ c.from_residual.ensures.1 (runs_from turn (runs_stop _ (rw c.as_slice.ensures.value at (c.in_err-rest.ensures.runs f))))

pub returns-clause-runs : goal.returns-clause-runs
returns-clause-runs g c f =
    let over = last_turn (λ es. keep same_ref (context_of f c.args.context.now) c.args.node (exprs (map expr_of es ++ expr_of c.args.last.now ∷ [])) c.loop-predicate.rest.items) c.args.before.now c.loop-predicate.predicate-index (omega arith) (c.loop-predicate.invariant.same f) in
    runs_from over (rw c.as_slice-2.ensures.value at (c.is_kept_there.ensures.runs f))

pub loop-predicate-preserved : goal.loop-predicate-preserved
loop-predicate-preserved g c =
    record {
      same = λ f.
          let next = next_turn (λ es. keep same_ref (context_of f c.args.context.now) c.args.node (exprs (map expr_of es ++ expr_of c.args.last.now ∷ [])) c.loop-predicate.rest.items) c.args.before.now c.loop-predicate.predicate-index c.predicate-item.result (omega arith) (c.loop-predicate.invariant.same f) in
          let turn = continues_as (keep_turn same_ref (context_of f c.args.context.now) c.args.node _ (drop (c.loop-predicate.predicate-index + 1) c.args.before.now) c.args.last.now c.loop-predicate.rest.items) (rw (← c.predicate-item.is) at next) in
          goes_on _ turn (rw c.as_slice.ensures.value at (c.in_ok-rest.ensures.runs f));
      name = c.all_kept.ensures.name ∙ c.loop-predicate.invariant.name;
    }
