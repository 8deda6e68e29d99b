use Rattle.std.proofs.Common.{refl, sym, ap, ◌+◌, ◌∙◌, drop, arith}
use Rattle.spec_transform.specs.Key.{texts_of}
use Rattle.xt_questions.proofs.Steps.{runs_stop, runs_memory, runs_from, goes_on, next_turn, exits}
use Rattle.xt_match.proofs.Together.{continues_as}
use Rattle.xt_keys.proofs.values.texts_of.Goals as goal

pub returns-in_err-text-clause-runs : goal.returns-in_err-text-clause-runs
returns-in_err-text-clause-runs g c supply depth =
    let turn = next_turn (texts_of c.loop-node.texts.items) c.args.nodes.now c.loop-node.node-index _ (omega arith) (c.loop-node.invariant.same supply depth) in
    exits _ c.from_residual.ensures.1 (runs_from turn (runs_stop _ (c.in_err-text.ensures.runs supply depth)))

pub returns-in_err-push-clause-runs : goal.returns-in_err-push-clause-runs
returns-in_err-push-clause-runs g c supply depth =
    let turn = next_turn (texts_of c.loop-node.texts.items) c.args.nodes.now c.loop-node.node-index _ (omega arith) (c.loop-node.invariant.same supply depth) in
    let on = goes_on _ turn (c.in_ok-text.ensures.runs supply depth) in
    exits _ c.from_residual-in_err-push.ensures.1 (runs_from on (runs_memory refl refl))

pub loop-node-preserved : goal.loop-node-preserved
loop-node-preserved g c =
    record {
      same = λ supply depth.
          let turn = next_turn (texts_of c.loop-node.texts.items) c.args.nodes.now c.loop-node.node-index _ (omega arith) (c.loop-node.invariant.same supply depth) in
          let on = goes_on _ turn (c.in_ok-text.ensures.runs supply depth) in
          continues_as (ap (λ texts. texts_of texts (drop (c.loop-node.node-index + 1) c.args.nodes.now)) (sym c.in_ok-push.ensures.items)) on;
      name = c.ask_text.ensures.name ∙ c.loop-node.invariant.name;
    }
