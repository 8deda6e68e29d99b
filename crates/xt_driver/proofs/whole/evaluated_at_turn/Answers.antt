use Rattle.std.proofs.Common.{List, ◌∷◌, ◌∙◌, sym, ap, subst}
use Rattle.spec_document.specs.Name.{Expanded}
use Rattle.spec_meaning.specs.Stream.{holes}
use Rattle.spec_run.specs.Direct.{Outcome}
use Rattle.spec_run.specs.Meaning.{Past, global_call}
use Rattle.spec_node.specs.declared.node_ref.NodeRef.{NodeRef}
use Rattle.xt_engine.specs.View.{call_of, named_of}
use Rattle.xt_driver.specs.View.{setting_of, past_of}
use Rattle.xt_driver.specs.Remembered.{Remembers}
use Rattle.xt_driver.specs.Referring.{entries_of}
use Rattle.xt_driver.proofs.NoHoles.{meaning_whole}
use Rattle.xt_driver.proofs.Standing.{if_ok, on_ok}
use Rattle.xt_driver.proofs.Coming.{of_turned}
use Rattle.xt_driver.specs.Counted.{hand_of}
use Rattle.xt_driver.proofs.Turning.{evaluated_turns}
use Rattle.xt_driver.proofs.Wholes.{turn_with}
use Rattle.xt_driver.proofs.whole.evaluated_at_turn.Goals as goal

pub first_means-came-requires-clause-remembers : goal.first_means-came-requires-clause-remembers
first_means-came-requires-clause-remembers g c =
    let globals = c.args.globals.now in
    let s = setting_of (g.W.World.state c.args.world.now).truth globals in
    let past = past_of globals in
    let under = c.as_slice.ensures.value ∙ c.in_ok-under_way.ensures ∙ ap (λ n. n ∷ globals.under_way.now) c.in_ok-name.ensures in
    let P : List Expanded → Type 0 = λ u. Remembers s (record { values = past.values; under = u }) (entries_of c.args.memo.now) in
    subst P (sym under) c.requires.remembers

pub at_turn-requires : goal.at_turn-requires
at_turn-requires g c =
    let s = setting_of (g.W.World.state c.args.world.now).truth c.args.globals.now in
    let past : Past NodeRef = record { values = (past_of c.args.globals.now).values; under = c.as_slice.result.now } in
    let whole = meaning_whole s c.args.levels past 0 (call_of c.global_call-call.result) in
    if_ok c.first_means-came.result c.first_means-came.ensures.meaning (λ x h. ap (λ (o : Outcome NodeRef). holes o.content) h ∙ whole)

pub returns-clause-turns : goal.returns-clause-turns
returns-clause-turns g c =
    let globals = c.args.globals.now in
    let s = setting_of (g.W.World.state c.args.world.now).truth globals in
    let under = c.as_slice.ensures.value ∙ c.in_ok-under_way.ensures ∙ ap (λ n. n ∷ globals.under_way.now) c.in_ok-name.ensures in
    let call = c.global_call-call.ensures ∙ ap (global_call globals.root c.args.global.now.element) c.nowhere.ensures in
    evaluated_turns s (past_of globals) (named_of c.args.global.now) c.as_slice.result.now c.args.levels (call_of c.global_call-call.result) (entries_of c.args.memo.now) (entries_of c.first_means-came.new.memo)
    c.first_means-came.result c.at_turn.result under call c.first_means-came.ensures.keeps c.first_means-came.ensures.meaning c.at_turn.ensures

pub returns-clause-sure : goal.returns-clause-sure
returns-clause-sure g c = on_ok c.at_turn.result c.at_turn.ensures (λ t h. of_turned t c.first_means-came.result h c.first_means-came.ensures.sure)

pub returns-clause-counts : goal.returns-clause-counts
returns-clause-counts g c =
    let globals = c.args.globals.now in
    let s = setting_of (g.W.World.state c.args.world.now).truth globals in
    let under = c.as_slice.ensures.value ∙ c.in_ok-under_way.ensures ∙ ap (λ n. n ∷ globals.under_way.now) c.in_ok-name.ensures in
    let call = c.global_call-call.ensures ∙ ap (global_call globals.root c.args.global.now.element) c.nowhere.ensures in
    on_ok c.at_turn.result c.at_turn.ensures (λ t h.
    turn_with s (past_of globals) (named_of c.args.global.now) c.args.levels c.as_slice.result.now (call_of c.global_call-call.result)
    (hand_of c.args.reuse.now c.args.memo.now) (hand_of c.first_means-came.new.reuse c.first_means-came.new.memo) under call
    (of_turned t c.first_means-came.result h c.first_means-came.ensures.counts))
