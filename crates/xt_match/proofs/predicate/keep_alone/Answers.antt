use Rattle.std.proofs.Common.{refl, map, ◌∙◌, arith}
use Rattle.spec_expression.specs.Syntax.{exprs}
use Rattle.spec_transform.specs.Match.{keep_alone}
use Rattle.xt_syntax.specs.View.{expr_of}
use Rattle.xt_questions.specs.View.{context_of}
use Rattle.xt_questions.proofs.Steps.{runs_then, runs_stop, runs_gives, runs_from, goes_on, next_turn, exits}
use Rattle.xt_match.proofs.predicate.keep_alone.Goals as goal

pub returns-in_err-is_kept-clause-runs : goal.returns-in_err-is_kept-clause-runs
returns-in_err-is_kept-clause-runs g c f =
    let next = next_turn (λ es. keep_alone (context_of f c.args.context.now) c.args.node (exprs (map expr_of es))) c.args.predicates.now c.loop-predicate.predicate-index c.predicate-item.result (omega arith) (c.loop-predicate.invariant.same f) in
    let turn = rw (← c.predicate-item.is) at next in
    exits _ c.from_residual.ensures.1 (runs_from turn (runs_stop _ (c.in_err-is_kept.ensures.runs f)))

pub returns-then-not-is_kept-clause-runs : goal.returns-then-not-is_kept-clause-runs
returns-then-not-is_kept-clause-runs g c f =
    let next = next_turn (λ es. keep_alone (context_of f c.args.context.now) c.args.node (exprs (map expr_of es))) c.args.predicates.now c.loop-predicate.predicate-index c.predicate-item.result (omega arith) (c.loop-predicate.invariant.same f) in
    let turn = rw (← c.predicate-item.is) at next in
    runs_from turn (runs_then _ (c.in_ok-is_kept.ensures.runs f) (rw c.if-not-is_kept.true (runs_gives refl)))

pub loop-predicate-preserved : goal.loop-predicate-preserved
loop-predicate-preserved g c =
    record {
      same = λ f.
          let next = next_turn (λ es. keep_alone (context_of f c.args.context.now) c.args.node (exprs (map expr_of es))) c.args.predicates.now c.loop-predicate.predicate-index c.predicate-item.result (omega arith) (c.loop-predicate.invariant.same f) in
          let turn = rw (← c.predicate-item.is) at next in
          let on = goes_on _ turn (c.in_ok-is_kept.ensures.runs f) in
          rw c.if-not-is_kept.false at on;
      name = c.is_kept.ensures.name ∙ c.loop-predicate.invariant.name;
    }
