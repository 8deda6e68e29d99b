use Rattle.std.proofs.Common.{◌∙◌, refl}
use Rattle.spec_meaning.specs.Call.{nodes_of_keys}
use Rattle.xt_questions.proofs.Steps.{runs_stop, runs_memory, runs_from, goes_on, next_turn, exits}
use Rattle.xp_functions.proofs.Within.{continues_as, keys_are}
use Rattle.xp_functions.proofs.key.nodes_of_keys.Goals as goal

pub returns-in_err-more-clause-runs : goal.returns-in_err-more-clause-runs
returns-in_err-more-clause-runs g c supply depth =
    let here = continues_as (keys_are c.args.name.now c.loop-node.found.items _ _) (next_turn (nodes_of_keys c.args.name.now c.loop-node.found.items) c.args.nodes.now c.loop-node.node-index _ c.loop-node-test.true (c.loop-node.invariant.same supply depth)) in
    exits _ c.from_residual.ensures.1 (runs_from here (runs_stop _ (c.in_err-more.ensures.runs supply depth)))

pub returns-in_err-extend_from_slice-clause-runs : goal.returns-in_err-extend_from_slice-clause-runs
returns-in_err-extend_from_slice-clause-runs g c supply depth =
    let here = continues_as (keys_are c.args.name.now c.loop-node.found.items _ _) (next_turn (nodes_of_keys c.args.name.now c.loop-node.found.items) c.args.nodes.now c.loop-node.node-index _ c.loop-node-test.true (c.loop-node.invariant.same supply depth)) in
    let after = goes_on _ here (c.in_ok-more.ensures.runs supply depth) in
    exits _ c.from_residual-in_err-extend_from_slice.ensures.1 (runs_from after (runs_memory refl refl))

pub loop-node-preserved : goal.loop-node-preserved
loop-node-preserved g c =
    record {
      same = λ supply depth.
          let here = continues_as (keys_are c.args.name.now c.loop-node.found.items _ _) (next_turn (nodes_of_keys c.args.name.now c.loop-node.found.items) c.args.nodes.now c.loop-node.node-index _ c.loop-node-test.true (c.loop-node.invariant.same supply depth)) in
          let after = goes_on _ here (c.in_ok-more.ensures.runs supply depth) in
          rw (c.in_ok-extend_from_slice.ensures.items, c.as_slice.ensures.value) after;
      name = c.nodes_at.ensures.name ∙ c.loop-node.invariant.name;
    }
