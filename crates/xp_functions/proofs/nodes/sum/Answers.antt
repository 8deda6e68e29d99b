use Rattle.std.proofs.Common.{◌∙◌}
use Rattle.spec_meaning.specs.Call.{summed}
use Rattle.xt_questions.proofs.Steps.{runs_stop, runs_from, goes_on, next_turn, exits}
use Rattle.xp_functions.proofs.Within.{continues_as, summed_is}
use Rattle.xp_functions.proofs.nodes.sum.Goals as goal

pub returns-in_err-total-clause-runs : goal.returns-in_err-total-clause-runs
returns-in_err-total-clause-runs g c supply depth =
    let here = continues_as (summed_is c.loop-node.total _ _) (next_turn (summed c.loop-node.total) c.args.nodes.now c.loop-node.node-index _ c.loop-node-test.true (c.loop-node.invariant.same supply depth)) in
    exits _ c.from_residual.ensures.1 (runs_from here (runs_stop _ (c.in_err-total.ensures.runs supply depth)))

pub loop-node-preserved : goal.loop-node-preserved
loop-node-preserved g c =
    record {
      same = λ supply depth.
          let here = continues_as (summed_is c.loop-node.total _ _) (next_turn (summed c.loop-node.total) c.args.nodes.now c.loop-node.node-index _ c.loop-node-test.true (c.loop-node.invariant.same supply depth)) in
          goes_on _ here (c.in_ok-total.ensures.runs supply depth);
      name = c.plus_node.ensures.name ∙ c.loop-node.invariant.name;
    }
