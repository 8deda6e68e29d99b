use Rattle.std.proofs.Common.{◌+◌, List, drop, ap, ◌∙◌, arith}
use Rattle.spec_meaning.specs.Program.{Give}
use Rattle.spec_transform.specs.Key.{Entry, key_in, keys_named}
use Rattle.spec_node.specs.declared.node_ref.NodeRef.{NodeRef}
use Rattle.xt_questions.specs.declared.answer.ResolvedUnit.{ResolvedUnit}
use Rattle.xt_questions.specs.Runs.{itself}
use Rattle.xt_questions.proofs.Steps.{runs_stop, runs_gives, runs_from, next_turn, last_turn, exits}
use Rattle.xt_match.specs.Context.{unit_in, units_in}
use Rattle.xt_match.proofs.Together.{continues_as}
use Rattle.xt_keys.specs.View.{all_texts, texts_in}
use Rattle.xt_keys.proofs.Programs.{fills_at, given_on, keys_done, keys_turn, left_of_keys, stopped_before}
use Rattle.xt_keys.proofs.filling.all_values.Goals as goal

pub returns-in_err-fill_by-clause-runs : goal.returns-in_err-fill_by-clause-runs
returns-in_err-fill_by-clause-runs g c =
    let nodes = c.args.nodes.now in
    let name = c.args.name.now in
    let units = c.args.units.now in
    let i = c.loop-resolved.resolved-index in
    let item = c.resolved-item.result in
    let before = c.loop-resolved.invariant.filled in
    let turn = next_turn (λ us. left_of_keys nodes (keys_named name (units_in us)) before.done) units i item (omega arith) before.same in
    let here = rw (← c.resolved-item.is) at turn in
    let by_unit = fills_at nodes name (c.deref-in-loop-resolved.ensures ∙ ap (λ (r : ResolvedUnit). r.unit.value) c.deref.ensures) c.in_err-fill_by.ensures.runs in
    exits _ c.from_residual-in_err-fill_by.ensures.1
    (runs_from (keys_turn nodes (key_in name (unit_in item) (unit_in item).declared) (keys_named name (units_in (drop (i + 1) units))) before.done here)
    (runs_stop _ (stopped_before {v = itself {A = List (Entry NodeRef)}} (all_texts nodes) _ (by_unit.runs before.done before.texts))))

pub returns-clause-runs : goal.returns-clause-runs
returns-clause-runs g c =
    let nodes = c.args.nodes.now in
    let before = c.loop-resolved.invariant.filled in
    let last = last_turn (λ us. left_of_keys nodes (keys_named c.args.name.now (units_in us)) before.done) c.args.units.now c.loop-resolved.resolved-index (omega arith) before.same in
    runs_from (continues_as (given_on before.done (λ entries. Give (all_texts nodes entries))) last) (runs_gives before.texts)

pub loop-resolved-preserved : goal.loop-resolved-preserved
loop-resolved-preserved g c =
    let nodes = c.args.nodes.now in
    let name = c.args.name.now in
    let units = c.args.units.now in
    let i = c.loop-resolved.resolved-index in
    let item = c.resolved-item.result in
    let before = c.loop-resolved.invariant.filled in
    let turn = next_turn (λ us. left_of_keys nodes (keys_named name (units_in us)) before.done) units i item (omega arith) before.same in
    let here = rw (← c.resolved-item.is) at turn in
    let by_unit = fills_at nodes name (c.deref-in-loop-resolved.ensures ∙ ap (λ (r : ResolvedUnit). r.unit.value) c.deref.ensures) c.in_ok-fill_by.ensures.runs in
    record {
      each = c.in_ok-fill_by.ensures.each;
      filled = keys_done nodes (key_in name (unit_in item) (unit_in item).declared) (keys_named name (units_in (drop (i + 1) units)))
          (texts_in c.loop-resolved.found) (texts_in c.fill_by.new.found) (record { done = before.done; texts = before.texts; same = here }) by_unit;
      name = c.fill_by.ensures.name ∙ c.loop-resolved.invariant.name;
    }
