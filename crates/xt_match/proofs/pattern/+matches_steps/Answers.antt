use Rattle.std.proofs.Common.{refl, sym, ◌∙◌, arith, map, reverse}
use Rattle.spec_transform.specs.Match.{holds_of_one, when_called, matches_steps}
use Rattle.spec_node.specs.Naming.{same_ref}
use Rattle.xt_syntax.specs.PartView.{pattern_step_of}
use Rattle.xt_questions.specs.View.{context_of}
use Rattle.xt_questions.proofs.Steps.{runs_then, runs_stop, runs_gives, runs_from, goes_on, next_turn, last_turn, exits}
use Rattle.xt_match.proofs.Together.{runs_as, continues_as, above_so}
use Rattle.xt_match.proofs.Turns.{called_turn}
use Rattle.xt_match.proofs.Views.{last_first, none_left}
use Rattle.xt_match.proofs.pattern.+matches_steps.Goals as goal

pub matches_above-returns-in_err-above-clause-runs : goal.matches_above-returns-in_err-above-clause-runs
matches_above-returns-in_err-above-clause-runs g t c f =
    let program = above_so (matches_steps same_ref (context_of f c.args.context.now) c.args.start.now (reverse (map pattern_step_of c.args.steps.now))) c.args.separator c.args.node c.axis_above-axis.ensures in
    rw (sym c.is_free.ensures ∙ c.if-is_free.false) (exits _ c.from_residual.ensures.1 (runs_as program (runs_stop _ (c.in_err-above.ensures.runs _ _))))

pub matches_above-one_matches-requires : goal.matches_above-one_matches-requires
matches_above-one_matches-requires g t c =
    λ κs lives. (omega arith, lives)

pub matches_above-returns-clause-runs : goal.matches_above-returns-clause-runs
matches_above-returns-clause-runs g t c f =
    let program = above_so (matches_steps same_ref (context_of f c.args.context.now) c.args.start.now (reverse (map pattern_step_of c.args.steps.now))) c.args.separator c.args.node c.axis_above-axis.ensures in
    rw (sym c.is_free.ensures ∙ c.if-is_free.false) (runs_as program (runs_then _ (c.in_ok-above.ensures.runs _ _) (rw c.as_slice.ensures.value at (c.one_matches.ensures.runs f))))

pub matches_steps-returns-in-None-clause-runs : goal.matches_steps-returns-in-None-clause-runs
matches_steps-returns-in-None-clause-runs g t c f =
    rw (none_left c.args.steps.now c.in-None.ensures.cases) (c.starts_at.ensures.runs _ _)

pub matches_steps-returns-in_err-passes-in-Some-clause-runs : goal.matches_steps-returns-in_err-passes-in-Some-clause-runs
matches_steps-returns-in_err-passes-in-Some-clause-runs g t c f =
    rw (last_first c.args.steps.now c.in-Some.before.now c.in-Some.last.now c.in-Some.ensures.cases.0) (exits _ c.from_residual.ensures.1 (runs_stop _ (c.in_err-passes-in-Some.ensures.runs f)))

pub matches_steps-returns-then-passes-clause-runs : goal.matches_steps-returns-then-passes-clause-runs
matches_steps-returns-then-passes-clause-runs g t c f =
    rw (last_first c.args.steps.now c.in-Some.before.now c.in-Some.last.now c.in-Some.ensures.cases.0) (runs_then _ (c.in_ok-passes-in-Some.ensures.runs f) (rw c.if-passes.true (c.matches_above.ensures.runs f)))

pub matches_steps-returns-else-passes-clause-runs : goal.matches_steps-returns-else-passes-clause-runs
matches_steps-returns-else-passes-clause-runs g t c f =
    rw (last_first c.args.steps.now c.in-Some.before.now c.in-Some.last.now c.in-Some.ensures.cases.0) (runs_then _ (c.in_ok-passes-in-Some.ensures.runs f) (rw c.if-passes.false (runs_gives refl)))

pub matches_steps-matches_above-requires : goal.matches_steps-matches_above-requires
matches_steps-matches_above-requires g t c =
    let shorter = c.in-Some.ensures.cases.1 in λ κs lives. (omega (arith, shorter), lives)

pub one_matches-matches_steps-ended-requires : goal.one_matches-matches_steps-ended-requires
one_matches-matches_steps-ended-requires g t c =
    λ κs lives. (omega arith, lives)

pub one_matches-returns-in_err-called-clause-runs : goal.one_matches-returns-in_err-called-clause-runs
one_matches-returns-in_err-called-clause-runs g t c f =
    let test = matches_steps same_ref (context_of f c.args.context.now) c.args.start.now (reverse (map pattern_step_of c.args.steps.now)) in
    let turn = continues_as (called_turn test _ _) (next_turn (holds_of_one (when_called test)) c.args.nodes.now c.loop-node.node-index _ (omega arith) (c.loop-node.invariant.same f)) in
    exits _ c.from_residual.ensures.1 (runs_from turn (runs_stop _ (c.in_err-called.ensures.runs _ _)))

pub one_matches-returns-in_err-matches-clause-runs : goal.one_matches-returns-in_err-matches-clause-runs
one_matches-returns-in_err-matches-clause-runs g t c f =
    let test = matches_steps same_ref (context_of f c.args.context.now) c.args.start.now (reverse (map pattern_step_of c.args.steps.now)) in
    let turn = continues_as (called_turn test _ _) (next_turn (holds_of_one (when_called test)) c.args.nodes.now c.loop-node.node-index _ (omega arith) (c.loop-node.invariant.same f)) in
    let on = goes_on _ turn (c.in_ok-called.ensures.runs _ _) in
    exits _ c.from_residual-in_err-matches.ensures.1 (runs_from on (runs_stop _ (c.in_err-matches.ensures.runs f)))

pub one_matches-returns-then-matches-clause-runs : goal.one_matches-returns-then-matches-clause-runs
one_matches-returns-then-matches-clause-runs g t c f =
    let test = matches_steps same_ref (context_of f c.args.context.now) c.args.start.now (reverse (map pattern_step_of c.args.steps.now)) in
    let turn = continues_as (called_turn test _ _) (next_turn (holds_of_one (when_called test)) c.args.nodes.now c.loop-node.node-index _ (omega arith) (c.loop-node.invariant.same f)) in
    let on = goes_on _ turn (c.in_ok-called.ensures.runs _ _) in
    runs_from on (runs_then _ (c.in_ok-matches.ensures.runs f) (rw c.if-matches.true (runs_gives refl)))

pub one_matches-returns-clause-runs : goal.one_matches-returns-clause-runs
one_matches-returns-clause-runs g t c f =
    let test = matches_steps same_ref (context_of f c.args.context.now) c.args.start.now (reverse (map pattern_step_of c.args.steps.now)) in
    runs_from (last_turn (holds_of_one (when_called test)) c.args.nodes.now c.loop-node.node-index (omega arith) (c.loop-node.invariant.same f)) (runs_gives refl)

pub one_matches-loop-node-preserved : goal.one_matches-loop-node-preserved
one_matches-loop-node-preserved g t c =
    record {
      same = λ f.
          let test = matches_steps same_ref (context_of f c.args.context.now) c.args.start.now (reverse (map pattern_step_of c.args.steps.now)) in
          let turn = continues_as (called_turn test _ _) (next_turn (holds_of_one (when_called test)) c.args.nodes.now c.loop-node.node-index _ (omega arith) (c.loop-node.invariant.same f)) in
          let on = goes_on _ turn (c.in_ok-called.ensures.runs _ _) in
          let after = goes_on _ on (c.in_ok-matches.ensures.runs f) in
          rw c.if-matches.false at after;
      name = c.matches_steps-ended.ensures.name ∙ c.ask_called.ensures.name ∙ c.loop-node.invariant.name;
    }
