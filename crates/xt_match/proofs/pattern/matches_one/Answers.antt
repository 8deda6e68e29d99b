use Rattle.std.proofs.Common.{refl, ◌∙◌, arith, map}
use Rattle.spec_transform.specs.Match.{matches_one}
use Rattle.spec_node.specs.Naming.{same_ref}
use Rattle.xt_syntax.specs.PartView.{alternative_of}
use Rattle.xt_questions.specs.View.{answer_of, context_of}
use Rattle.xt_questions.proofs.Steps.{runs_then, runs_stop, runs_gives, runs_from, goes_on, next_turn, exits}
use Rattle.xt_match.proofs.pattern.matches_one.Goals as goal

pub returns-in_err-matches-clause-runs : goal.returns-in_err-matches-clause-runs
returns-in_err-matches-clause-runs g c f =
    let turn = rw (← c.alternative-item.is) at (next_turn (λ alternatives. matches_one same_ref (context_of f c.args.context.now) (map alternative_of alternatives) c.args.node (answer_of c.args.called.now)) c.args.alternatives.now c.loop-alternative.alternative-index c.alternative-item.result (omega arith) (c.loop-alternative.invariant.same f)) in
    exits _ c.from_residual.ensures.1 (runs_from turn (runs_stop _ (c.in_err-matches.ensures.runs f)))

pub returns-then-matches-clause-runs : goal.returns-then-matches-clause-runs
returns-then-matches-clause-runs g c f =
    let turn = rw (← c.alternative-item.is) at (next_turn (λ alternatives. matches_one same_ref (context_of f c.args.context.now) (map alternative_of alternatives) c.args.node (answer_of c.args.called.now)) c.args.alternatives.now c.loop-alternative.alternative-index c.alternative-item.result (omega arith) (c.loop-alternative.invariant.same f)) in
    runs_from turn (runs_then _ (c.in_ok-matches.ensures.runs f) (rw c.if-matches.true (runs_gives refl)))

pub loop-alternative-preserved : goal.loop-alternative-preserved
loop-alternative-preserved g c =
    record {
      same = λ f.
          let turn = rw (← c.alternative-item.is) at (next_turn (λ alternatives. matches_one same_ref (context_of f c.args.context.now) (map alternative_of alternatives) c.args.node (answer_of c.args.called.now)) c.args.alternatives.now c.loop-alternative.alternative-index c.alternative-item.result (omega arith) (c.loop-alternative.invariant.same f)) in
          let on = goes_on _ turn (c.in_ok-matches.ensures.runs f) in
          rw c.if-matches.false at on;
      name = c.matches_alternative.ensures.name ∙ c.loop-alternative.invariant.name;
    }
