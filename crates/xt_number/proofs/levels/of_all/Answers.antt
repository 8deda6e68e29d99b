use Rattle.std.proofs.Common.{refl, reverse, ◌∙◌, arith}
use Rattle.spec_transform.specs.Numbering.{is_counted, of_all}
use Rattle.spec_node.specs.Naming.{same_ref}
use Rattle.xt_questions.specs.View.{context_of}
use Rattle.xt_questions.proofs.Steps.{runs_then, runs_stop, runs_gives, runs_memory, runs_from, goes_on, next_turn, last_turn, exits}
use Rattle.xt_number.specs.View.{counted_of}
use Rattle.xt_number.proofs.Turns.{pushed_first}
use Rattle.xt_number.proofs.levels.of_all.Goals as goal

pub returns-in_err-is_counted-clause-runs : goal.returns-in_err-is_counted-clause-runs
returns-in_err-is_counted-clause-runs g c f =
    let test = is_counted same_ref (context_of f c.args.context.now) (counted_of c.args.counted.now) in
    let turn = next_turn (of_all test (reverse c.loop-node.numbers.items)) c.args.nodes.now c.loop-node.node-index _ (omega arith) (c.loop-node.invariant.same f) in
    exits _ c.from_residual.ensures.1 (runs_from turn (runs_stop _ (c.in_err-is_counted.ensures.runs f)))

pub returns-in_err-number-clause-runs : goal.returns-in_err-number-clause-runs
returns-in_err-number-clause-runs g c f =
    let test = is_counted same_ref (context_of f c.args.context.now) (counted_of c.args.counted.now) in
    let turn = next_turn (of_all test (reverse c.loop-node.numbers.items)) c.args.nodes.now c.loop-node.node-index _ (omega arith) (c.loop-node.invariant.same f) in
    let on = goes_on _ turn (c.in_ok-is_counted.ensures.runs f) in
    exits _ c.from_residual-in_err-number.ensures.1 (runs_from (rw c.if-not-is_counted.false at on) (runs_stop _ (c.in_err-number.ensures.runs f)))

pub returns-in_err-push-clause-runs : goal.returns-in_err-push-clause-runs
returns-in_err-push-clause-runs g c f =
    let test = is_counted same_ref (context_of f c.args.context.now) (counted_of c.args.counted.now) in
    let turn = next_turn (of_all test (reverse c.loop-node.numbers.items)) c.args.nodes.now c.loop-node.node-index _ (omega arith) (c.loop-node.invariant.same f) in
    let on = goes_on _ turn (c.in_ok-is_counted.ensures.runs f) in
    exits _ c.from_residual-in_err-push.ensures.1
    (runs_from (rw c.if-not-is_counted.false at on) (runs_then _ (c.in_ok-number.ensures.runs f) (runs_memory refl refl)))

pub returns-clause-runs : goal.returns-clause-runs
returns-clause-runs g c f =
    let test = is_counted same_ref (context_of f c.args.context.now) (counted_of c.args.counted.now) in
    let over = last_turn (of_all test (reverse c.loop-node.numbers.items)) c.args.nodes.now c.loop-node.node-index (omega arith) (c.loop-node.invariant.same f) in
    runs_from over (runs_gives c.reverse.ensures.items)

pub loop-node-preserved-then-not-is_counted : goal.loop-node-preserved-then-not-is_counted
loop-node-preserved-then-not-is_counted g c =
    record {
      same = λ f.
          let test = is_counted same_ref (context_of f c.args.context.now) (counted_of c.args.counted.now) in
          let turn = next_turn (of_all test (reverse c.loop-node.numbers.items)) c.args.nodes.now c.loop-node.node-index _ (omega arith) (c.loop-node.invariant.same f) in
          let on = goes_on _ turn (c.in_ok-is_counted.ensures.runs f) in
          rw c.if-not-is_counted.true at on;
      name = c.is_counted.ensures.name ∙ c.loop-node.invariant.name;
    }

pub loop-node-preserved : goal.loop-node-preserved
loop-node-preserved g c =
    record {
      same = λ f.
          let test = is_counted same_ref (context_of f c.args.context.now) (counted_of c.args.counted.now) in
          let turn = next_turn (of_all test (reverse c.loop-node.numbers.items)) c.args.nodes.now c.loop-node.node-index _ (omega arith) (c.loop-node.invariant.same f) in
          let on = goes_on _ turn (c.in_ok-is_counted.ensures.runs f) in
          let after = goes_on _ (rw c.if-not-is_counted.false at on) (c.in_ok-number.ensures.runs f) in
          rw (c.in_ok-push.ensures.items, pushed_first c.loop-node.numbers.items c.in_ok-number.number) after;
      name = c.number_among.ensures.name ∙ c.is_counted.ensures.name ∙ c.loop-node.invariant.name;
    }
