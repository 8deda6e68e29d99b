use Rattle.std.proofs.Common.{refl, ◌∙◌, arith}
use Rattle.spec_transform.specs.Numbering.{is_counted, of_first}
use Rattle.spec_node.specs.Naming.{same_ref}
use Rattle.xt_questions.specs.View.{context_of}
use Rattle.xt_questions.proofs.Steps.{runs_then, runs_stop, runs_gives, runs_memory, runs_from, goes_on, next_turn, last_turn, exits}
use Rattle.xt_number.specs.View.{counted_of}
use Rattle.xt_number.proofs.levels.of_first.Goals as goal

pub returns-in_err-is_counted-clause-runs : goal.returns-in_err-is_counted-clause-runs
returns-in_err-is_counted-clause-runs g c f =
    let test = is_counted same_ref (context_of f c.args.context.now) (counted_of c.args.counted.now) in
    let turn = next_turn (of_first test) c.args.nodes.now c.loop-node.node-index _ (omega arith) (c.loop-node.invariant.same f) in
    exits _ c.from_residual.ensures.1 (runs_from turn (runs_stop _ (c.in_err-is_counted.ensures.runs f)))

pub returns-in_err-number-clause-runs : goal.returns-in_err-number-clause-runs
returns-in_err-number-clause-runs g c f =
    let test = is_counted same_ref (context_of f c.args.context.now) (counted_of c.args.counted.now) in
    let turn = next_turn (of_first test) c.args.nodes.now c.loop-node.node-index _ (omega arith) (c.loop-node.invariant.same f) in
    let on = goes_on _ turn (c.in_ok-is_counted.ensures.runs f) in
    exits _ c.from_residual-in_err-number.ensures.1 (runs_from (rw c.if-is_counted.true at on) (runs_stop _ (c.in_err-number.ensures.runs f)))

pub returns-in_err-only-clause-runs : goal.returns-in_err-only-clause-runs
returns-in_err-only-clause-runs g c f =
    let test = is_counted same_ref (context_of f c.args.context.now) (counted_of c.args.counted.now) in
    let turn = next_turn (of_first test) c.args.nodes.now c.loop-node.node-index _ (omega arith) (c.loop-node.invariant.same f) in
    let on = goes_on _ turn (c.in_ok-is_counted.ensures.runs f) in
    exits _ c.from_residual-in_err-only.ensures.1
    (runs_from (rw c.if-is_counted.true at on) (runs_then _ (c.in_ok-number.ensures.runs f) (runs_memory refl refl)))

pub returns-then-is_counted-clause-runs : goal.returns-then-is_counted-clause-runs
returns-then-is_counted-clause-runs g c f =
    let test = is_counted same_ref (context_of f c.args.context.now) (counted_of c.args.counted.now) in
    let turn = next_turn (of_first test) c.args.nodes.now c.loop-node.node-index _ (omega arith) (c.loop-node.invariant.same f) in
    let on = goes_on _ turn (c.in_ok-is_counted.ensures.runs f) in
    runs_from (rw c.if-is_counted.true at on) (runs_then _ (c.in_ok-number.ensures.runs f) (runs_gives (c.in_ok-only.ensures {u = tt})))

pub returns-clause-runs : goal.returns-clause-runs
returns-clause-runs g c f =
    let test = is_counted same_ref (context_of f c.args.context.now) (counted_of c.args.counted.now) in
    runs_from (last_turn (of_first test) c.args.nodes.now c.loop-node.node-index (omega arith) (c.loop-node.invariant.same f)) (runs_gives c.new.ensures.items)

pub loop-node-preserved : goal.loop-node-preserved
loop-node-preserved g c =
    record {
      same = λ f.
          let test = is_counted same_ref (context_of f c.args.context.now) (counted_of c.args.counted.now) in
          let turn = next_turn (of_first test) c.args.nodes.now c.loop-node.node-index _ (omega arith) (c.loop-node.invariant.same f) in
          let on = goes_on _ turn (c.in_ok-is_counted.ensures.runs f) in
          rw c.if-is_counted.false at on;
      name = c.is_counted.ensures.name ∙ c.loop-node.invariant.name;
    }
