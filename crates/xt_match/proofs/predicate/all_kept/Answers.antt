use Rattle.std.proofs.Common.{◌+◌, length, refl, ◌∙◌, arith}
use Rattle.spec_transform.specs.Match.{all_kept}
use Rattle.xt_syntax.specs.View.{expr_of}
use Rattle.xt_questions.specs.View.{context_of}
use Rattle.xt_questions.proofs.Steps.{runs_then, runs_stop, runs_memory, runs_from, goes_on, next_turn, exits}
use Rattle.xt_match.proofs.predicate.all_kept.Goals as goal

pub returns-in_err-is_kept-clause-runs : goal.returns-in_err-is_kept-clause-runs
returns-in_err-is_kept-clause-runs g c f =
    let turn = next_turn (all_kept (expr_of c.args.predicate.now) (context_of f c.args.context.now) (length c.args.nodes.now) (c.loop-i.i + 1) c.loop-i.kept.items) c.args.nodes.now c.loop-i.i _ (omega arith) (c.loop-i.invariant.same f) in
    exits _ c.from_residual.ensures.1 (runs_from turn (runs_stop _ (c.in_err-is_kept.ensures.runs f)))

pub returns-in_err-keep_if-clause-runs : goal.returns-in_err-keep_if-clause-runs
returns-in_err-keep_if-clause-runs g c f =
    let turn = next_turn (all_kept (expr_of c.args.predicate.now) (context_of f c.args.context.now) (length c.args.nodes.now) (c.loop-i.i + 1) c.loop-i.kept.items) c.args.nodes.now c.loop-i.i _ (omega arith) (c.loop-i.invariant.same f) in
    exits _ c.from_residual-in_err-keep_if.ensures.1 (runs_from turn (runs_then _ (c.in_ok-is_kept.ensures.runs f) (runs_memory refl refl)))

pub loop-i-preserved : goal.loop-i-preserved
loop-i-preserved g c =
    record {
      same = λ f.
          let turn = next_turn (all_kept (expr_of c.args.predicate.now) (context_of f c.args.context.now) (length c.args.nodes.now) (c.loop-i.i + 1) c.loop-i.kept.items) c.args.nodes.now c.loop-i.i _ (omega arith) (c.loop-i.invariant.same f) in
          rw c.in_ok-keep_if.ensures (goes_on _ turn (c.in_ok-is_kept.ensures.runs f));
      name = c.is_kept.ensures.name ∙ c.loop-i.invariant.name;
    }
