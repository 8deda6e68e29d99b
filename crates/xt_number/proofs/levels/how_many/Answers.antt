use Rattle.std.proofs.Common.{refl, ◌∙◌, arith}
use Rattle.spec_transform.specs.Numbering.{how_many, is_counted}
use Rattle.spec_node.specs.Naming.{same_ref}
use Rattle.xt_questions.specs.View.{context_of}
use Rattle.xt_questions.proofs.Steps.{runs_stop, runs_gives, runs_from, goes_on, next_turn, last_turn, exits}
use Rattle.xt_number.specs.View.{counted_of}
use Rattle.xt_number.proofs.Turns.{counted_on, at_most_one}
use Rattle.xt_number.proofs.levels.how_many.Goals as goal

pub returns-in_err-is_counted-clause-runs : goal.returns-in_err-is_counted-clause-runs
returns-in_err-is_counted-clause-runs g c f =
    let test = is_counted same_ref (context_of f c.args.context.now) (counted_of c.args.counted.now) in
    let turn = next_turn (how_many test c.loop-node.count) c.args.nodes.now c.loop-node.node-index _ (omega arith) (c.loop-node.invariant.same f) in
    exits _ c.from_residual.ensures.1 (runs_from turn (runs_stop _ (c.in_err-is_counted.ensures.runs f)))

pub loop-node-preserved : goal.loop-node-preserved
loop-node-preserved g c =
    let most = at_most_one c.in_ok-is_counted.is_counted c.from-count.result c.from-count.ensures in
    record {
      same = λ f.
          let test = is_counted same_ref (context_of f c.args.context.now) (counted_of c.args.counted.now) in
          let turn = next_turn (how_many test c.loop-node.count) c.args.nodes.now c.loop-node.node-index _ (omega arith) (c.loop-node.invariant.same f) in
          let on = goes_on _ turn (c.in_ok-is_counted.ensures.runs f) in
          rw (counted_on c.in_ok-is_counted.is_counted c.loop-node.count c.from-count.result c.from-count.ensures) at on;
      most = omega (arith, most, c.loop-node.invariant.most);
      name = c.is_counted.ensures.name ∙ c.loop-node.invariant.name;
    }

pub returns-clause-runs : goal.returns-clause-runs
returns-clause-runs g c f =
    let test = is_counted same_ref (context_of f c.args.context.now) (counted_of c.args.counted.now) in
    runs_from (last_turn (how_many test c.loop-node.count) c.args.nodes.now c.loop-node.node-index (omega arith) (c.loop-node.invariant.same f)) (runs_gives refl)
