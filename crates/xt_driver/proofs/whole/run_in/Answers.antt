use Rattle.std.proofs.Common.{◌∙◌, ◌+◌, [], map, drop, None, sym, ap, refl, arith}
use Rattle.spec_meaning.specs.Question.{Choice, AllRules}
use Rattle.spec_run.specs.Plan.{nowhere}
use Rattle.spec_run.specs.Content.{rule_call}
use Rattle.spec_run.specs.Meaning.{at_turn, root_call, run}
use Rattle.xt_engine.specs.View.{named_of}
use Rattle.xt_driver.specs.View.{held_of, setting_in}
use Rattle.xt_driver.specs.Referring.{entries_of}
use Rattle.xt_driver.proofs.Standing.{if_ok, on_ok}
use Rattle.xt_driver.proofs.Turns.{root_here, turn_made, next_turn, turn_held, turn_refused, last_turn}
use Rattle.xt_driver.proofs.Turning.{remembers_here, turns_here, remembers_next, nothing_yet}
use Rattle.spec_reuse.specs.Instantiation.{entered_by_run}
use Rattle.xt_driver.specs.Counted.{Hand, hand_of}
use Rattle.xt_driver.proofs.Wholes.{turns_begun, turns_on, turns_refused, turns_ended, turns_next, turns_none, over_at, root_over}
use Rattle.xt_driver.proofs.Coming.{of_finished, sure_there}
use Rattle.xt_driver.proofs.whole.run_in.Goals as goal

pub loop-global-init : goal.loop-global-init
loop-global-init g c =
    let s = setting_in (g.W.World.state c.args.world.now).truth c.args.root c.args.named.now in
    record {
      same = ap (λ vs. run s c.args.levels s.globals (map held_of vs) c.new-told.result.items (root_call s)) c.new-values.ensures.items ∙ ap (λ t. run s c.args.levels s.globals [] t (root_call s)) c.new-told.ensures.items;
      remembers = nothing_yet s (at_turn (map held_of c.new-values.result.items)) c.nothing_remembered-memo.ensures;
      turns = λ within of_run. turns_begun s c.args.levels s.globals (map held_of c.new-values.result.items) (root_call s) c.args.reuse.now (entries_of c.nothing_remembered-memo.result)
          (ap (map held_of) c.new-values.ensures.items) c.nothing_remembered-memo.ensures within;
      sure = c.requires;
      truth = refl;
      name = refl;
      last = refl;
      spared = refl;
    }

pub turn-requires-clause-sure : goal.turn-requires-clause-sure
turn-requires-clause-sure g c =
    let inv = c.loop-global.invariant in
    sure_there (sym inv.truth) inv.sure

pub turn-requires-clause-remembers : goal.turn-requires-clause-remembers
turn-requires-clause-remembers g c =
    let inv = c.loop-global.invariant in
    remembers_here c.args.root c.args.named.now (entries_of c.loop-global.memo) inv.truth c.as_slice.ensures.value refl inv.remembers

pub loop-global-preserved : goal.loop-global-preserved
loop-global-preserved g c =
    let truth = (g.W.World.state c.args.world.now).truth in
    let root = c.args.root in
    let named = c.args.named.now in
    let levels = c.args.levels in
    let s = setting_in truth root named in
    let inv = c.loop-global.invariant in
    let i = c.loop-global.global-index in
    let values = map held_of c.loop-global.values.items in
    let told = c.loop-global.told.items in
    let call = root_call s in
    let n = c.global-item.result in
    let next = next_turn s levels named i n values told call (omega arith) c.global-item.is in
    let t = c.in_ok-turned.turned in
    let memo = entries_of c.turn.new.memo in
    let turns = turns_here root named t (named_of n) levels memo inv.truth c.as_slice.ensures.value refl c.in_ok-turned.ensures.turns in
    let more = c.take_turn.new.told.items in
    let all = map held_of c.take_turn.new.values.items in
    let made = turn_made turns.turned.held turns.turned.content c.in_ok-refusal.ensures.told in
    let gs = map named_of (drop (i + 1) named) in
    let held = turn_held s levels (named_of n) gs values all told more call t.held c.in_ok-refusal.refusal made c.in-None.is c.in_ok-refusal.ensures.held in
    record {
      same = held ∙ sym next ∙ inv.same;
      remembers = remembers_next s values all (named_of n) memo t.held c.in_ok-refusal.refusal turns.remembers c.in-None.is c.in_ok-refusal.ensures.held;
      turns = λ within of_run. turns_on s levels (named_of n) gs values all call t.held c.in_ok-refusal.refusal (entered_by_run s levels s.globals [] call)
          (record { reuse = c.args.reuse.now; entries = [] }) (hand_of c.loop-global.reuse c.loop-global.memo) (hand_of c.turn.new.reuse c.turn.new.memo) of_run
          turns.turned.held c.in-None.is c.in_ok-refusal.ensures.held
          (turns_next s levels named i n values call (entered_by_run s levels s.globals [] call) (record { reuse = c.args.reuse.now; entries = [] })
          (hand_of c.loop-global.reuse c.loop-global.memo) (omega arith) c.global-item.is (inv.turns within of_run))
          (over_at root named (named_of n) levels (hand_of c.loop-global.reuse c.loop-global.memo) (hand_of c.turn.new.reuse c.turn.new.memo) inv.truth
          c.as_slice.ensures.value refl c.in_ok-turned.ensures.counts);
      sure = sure_there inv.truth c.in_ok-turned.ensures.sure;
      truth = c.turn.ensures.truth ∙ inv.truth;
      name = c.turn.ensures.name ∙ inv.name;
      last = c.in_ok-turned.ensures.last ∙ inv.last;
      spared = c.in_ok-turned.ensures.spared ∙ inv.spared;
    }

pub returns-in-Some-clause-run : goal.returns-in-Some-clause-run
returns-in-Some-clause-run g c =
    let truth = (g.W.World.state c.args.world.now).truth in
    let root = c.args.root in
    let named = c.args.named.now in
    let levels = c.args.levels in
    let s = setting_in truth root named in
    let inv = c.loop-global.invariant in
    let i = c.loop-global.global-index in
    let values = map held_of c.loop-global.values.items in
    let told = c.loop-global.told.items in
    let call = root_call s in
    let n = c.global-item.result in
    let next = next_turn s levels named i n values told call (omega arith) c.global-item.is in
    let t = c.in_ok-turned.turned in
    let turns = turns_here root named t (named_of n) levels (entries_of c.turn.new.memo) inv.truth c.as_slice.ensures.value refl c.in_ok-turned.ensures.turns in
    let more = c.take_turn.new.told.items in
    let all = map held_of c.take_turn.new.values.items in
    let made = turn_made turns.turned.held turns.turned.content c.in_ok-refusal.ensures.told in
    let gs = map named_of (drop (i + 1) named) in
    let why = c.in-Some.why in
    let refused = turn_refused s levels (named_of n) gs values all told more call t.held c.in_ok-refusal.refusal why made c.in-Some.is c.in_ok-refusal.ensures.held in
    if_ok c.halted.result c.halted.ensures (λ w h. h ∙ refused ∙ sym next ∙ inv.same)

pub returns-in-Some-clause-sure : goal.returns-in-Some-clause-sure
returns-in-Some-clause-sure g c =
    on_ok c.halted.result c.halted.ensures (λ w h. sure_there c.loop-global.invariant.truth c.in_ok-turned.ensures.sure)

pub first_means-came-requires-clause-sure : goal.first_means-came-requires-clause-sure
first_means-came-requires-clause-sure g c =
    let inv = c.loop-global.invariant in
    sure_there (sym (c.root_call.ensures.truth ∙ inv.truth)) inv.sure

pub first_means-came-requires-clause-remembers : goal.first_means-came-requires-clause-remembers
first_means-came-requires-clause-remembers g c =
    let inv = c.loop-global.invariant in
    remembers_here c.args.root c.args.named.now (entries_of c.loop-global.memo) (c.root_call.ensures.truth ∙ inv.truth) c.as_slice-2.ensures.value refl inv.remembers

pub returns-clause-run : goal.returns-clause-run
returns-clause-run g c =
    let truth = (g.W.World.state c.args.world.now).truth in
    let root = c.args.root in
    let named = c.args.named.now in
    let levels = c.args.levels in
    let s = setting_in truth root named in
    let inv = c.loop-global.invariant in
    let i = c.loop-global.global-index in
    let values = map held_of c.loop-global.values.items in
    let told = c.loop-global.told.items in
    let call = root_call s in
    let same = c.in_ok-call.ensures.call ∙ ap (λ a. rule_call nowhere None [] 1 root 1 (a (Choice root None AllRules))) inv.truth in
    let here = root_here root named levels (c.root_call.ensures.truth ∙ inv.truth) c.as_slice-2.ensures.value refl same in
    let came = if_ok c.first_means-came.result c.first_means-came.ensures.meaning (λ x h. h ∙ here) in
    if_ok c.finished.result c.finished.ensures (λ w f. last_turn s levels named i values told call c.first_means-came.result w (omega arith) came f ∙ inv.same)

pub returns-clause-sure : goal.returns-clause-sure
returns-clause-sure g c =
    on_ok c.finished.result c.finished.ensures (λ w f.
    sure_there (c.root_call.ensures.truth ∙ c.loop-global.invariant.truth)
    (of_finished w c.loop-global.told.items c.first_means-came.result f c.first_means-came.ensures.sure))

pub returns-in-Some-clause-counts : goal.returns-in-Some-clause-counts
returns-in-Some-clause-counts g c =
    let truth = (g.W.World.state c.args.world.now).truth in
    let root = c.args.root in
    let named = c.args.named.now in
    let levels = c.args.levels in
    let s = setting_in truth root named in
    let inv = c.loop-global.invariant in
    let i = c.loop-global.global-index in
    let values = map held_of c.loop-global.values.items in
    let call = root_call s in
    let n = c.global-item.result in
    let t = c.in_ok-turned.turned in
    let turns = turns_here root named t (named_of n) levels (entries_of c.turn.new.memo) inv.truth c.as_slice.ensures.value refl c.in_ok-turned.ensures.turns in
    let all = map held_of c.take_turn.new.values.items in
    let gs = map named_of (drop (i + 1) named) in
    let first : Hand = record { reuse = c.args.reuse.now; entries = [] } in
    λ within of_run. on_ok c.halted.result c.halted.ensures (λ w h.
    (turns_refused s levels (named_of n) gs values all call t.held c.in_ok-refusal.refusal c.in-Some.why (entered_by_run s levels s.globals [] call)
    first (hand_of c.loop-global.reuse c.loop-global.memo) (hand_of c.turn.new.reuse c.turn.new.memo) of_run turns.turned.held c.in-Some.is
    c.in_ok-refusal.ensures.held
    (turns_next s levels named i n values call (entered_by_run s levels s.globals [] call) first (hand_of c.loop-global.reuse c.loop-global.memo) (omega arith)
    c.global-item.is (inv.turns within of_run))
    (over_at root named (named_of n) levels (hand_of c.loop-global.reuse c.loop-global.memo) (hand_of c.turn.new.reuse c.turn.new.memo) inv.truth
    c.as_slice.ensures.value refl c.in_ok-turned.ensures.counts)).0)

pub returns-in-Some-clause-kept : goal.returns-in-Some-clause-kept
returns-in-Some-clause-kept g c =
    let truth = (g.W.World.state c.args.world.now).truth in
    let root = c.args.root in
    let named = c.args.named.now in
    let levels = c.args.levels in
    let s = setting_in truth root named in
    let inv = c.loop-global.invariant in
    let i = c.loop-global.global-index in
    let values = map held_of c.loop-global.values.items in
    let call = root_call s in
    let n = c.global-item.result in
    let t = c.in_ok-turned.turned in
    let turns = turns_here root named t (named_of n) levels (entries_of c.turn.new.memo) inv.truth c.as_slice.ensures.value refl c.in_ok-turned.ensures.turns in
    let all = map held_of c.take_turn.new.values.items in
    let gs = map named_of (drop (i + 1) named) in
    let first : Hand = record { reuse = c.args.reuse.now; entries = [] } in
    λ within of_run. on_ok c.halted.result c.halted.ensures (λ w h.
    (turns_refused s levels (named_of n) gs values all call t.held c.in_ok-refusal.refusal c.in-Some.why (entered_by_run s levels s.globals [] call)
    first (hand_of c.loop-global.reuse c.loop-global.memo) (hand_of c.turn.new.reuse c.turn.new.memo) of_run turns.turned.held c.in-Some.is
    c.in_ok-refusal.ensures.held
    (turns_next s levels named i n values call (entered_by_run s levels s.globals [] call) first (hand_of c.loop-global.reuse c.loop-global.memo) (omega arith)
    c.global-item.is (inv.turns within of_run))
    (over_at root named (named_of n) levels (hand_of c.loop-global.reuse c.loop-global.memo) (hand_of c.turn.new.reuse c.turn.new.memo) inv.truth
    c.as_slice.ensures.value refl c.in_ok-turned.ensures.counts)).1)

pub returns-in-Some-clause-only : goal.returns-in-Some-clause-only
returns-in-Some-clause-only g c =
    let truth = (g.W.World.state c.args.world.now).truth in
    let root = c.args.root in
    let named = c.args.named.now in
    let levels = c.args.levels in
    let s = setting_in truth root named in
    let inv = c.loop-global.invariant in
    let i = c.loop-global.global-index in
    let values = map held_of c.loop-global.values.items in
    let call = root_call s in
    let n = c.global-item.result in
    let t = c.in_ok-turned.turned in
    let turns = turns_here root named t (named_of n) levels (entries_of c.turn.new.memo) inv.truth c.as_slice.ensures.value refl c.in_ok-turned.ensures.turns in
    let all = map held_of c.take_turn.new.values.items in
    let gs = map named_of (drop (i + 1) named) in
    let first : Hand = record { reuse = c.args.reuse.now; entries = [] } in
    λ within of_run. on_ok c.halted.result c.halted.ensures (λ w h.
    (turns_refused s levels (named_of n) gs values all call t.held c.in_ok-refusal.refusal c.in-Some.why (entered_by_run s levels s.globals [] call)
    first (hand_of c.loop-global.reuse c.loop-global.memo) (hand_of c.turn.new.reuse c.turn.new.memo) of_run turns.turned.held c.in-Some.is
    c.in_ok-refusal.ensures.held
    (turns_next s levels named i n values call (entered_by_run s levels s.globals [] call) first (hand_of c.loop-global.reuse c.loop-global.memo) (omega arith)
    c.global-item.is (inv.turns within of_run))
    (over_at root named (named_of n) levels (hand_of c.loop-global.reuse c.loop-global.memo) (hand_of c.turn.new.reuse c.turn.new.memo) inv.truth
    c.as_slice.ensures.value refl c.in_ok-turned.ensures.counts)).2)

pub returns-clause-counts : goal.returns-clause-counts
returns-clause-counts g c =
    let truth = (g.W.World.state c.args.world.now).truth in
    let root = c.args.root in
    let named = c.args.named.now in
    let levels = c.args.levels in
    let s = setting_in truth root named in
    let inv = c.loop-global.invariant in
    let i = c.loop-global.global-index in
    let values = map held_of c.loop-global.values.items in
    let call = root_call s in
    let same = c.in_ok-call.ensures.call ∙ ap (λ a. rule_call nowhere None [] 1 root 1 (a (Choice root None AllRules))) inv.truth in
    let first : Hand = record { reuse = c.args.reuse.now; entries = [] } in
    let now = hand_of c.loop-global.reuse c.loop-global.memo in
    let later = hand_of c.first_means-came.new.reuse c.first_means-came.new.memo in
    let is = entered_by_run s levels s.globals [] call in
    let over = root_over root named levels c.first_means-came.result now later (c.root_call.ensures.truth ∙ inv.truth) c.as_slice-2.ensures.value refl same
    c.first_means-came.ensures.counts in
    λ within of_run. on_ok c.finished.result c.finished.ensures (λ w f.
    (turns_ended s levels values call is first now later of_run (turns_none s levels named i values call is first now (omega arith) (inv.turns within of_run))
    (of_finished w c.loop-global.told.items c.first_means-came.result f over)).0)

pub returns-clause-kept : goal.returns-clause-kept
returns-clause-kept g c =
    let truth = (g.W.World.state c.args.world.now).truth in
    let root = c.args.root in
    let named = c.args.named.now in
    let levels = c.args.levels in
    let s = setting_in truth root named in
    let inv = c.loop-global.invariant in
    let i = c.loop-global.global-index in
    let values = map held_of c.loop-global.values.items in
    let call = root_call s in
    let same = c.in_ok-call.ensures.call ∙ ap (λ a. rule_call nowhere None [] 1 root 1 (a (Choice root None AllRules))) inv.truth in
    let first : Hand = record { reuse = c.args.reuse.now; entries = [] } in
    let now = hand_of c.loop-global.reuse c.loop-global.memo in
    let later = hand_of c.first_means-came.new.reuse c.first_means-came.new.memo in
    let is = entered_by_run s levels s.globals [] call in
    let over = root_over root named levels c.first_means-came.result now later (c.root_call.ensures.truth ∙ inv.truth) c.as_slice-2.ensures.value refl same
    c.first_means-came.ensures.counts in
    λ within of_run. on_ok c.finished.result c.finished.ensures (λ w f.
    (turns_ended s levels values call is first now later of_run (turns_none s levels named i values call is first now (omega arith) (inv.turns within of_run))
    (of_finished w c.loop-global.told.items c.first_means-came.result f over)).1)

pub returns-clause-only : goal.returns-clause-only
returns-clause-only g c =
    let truth = (g.W.World.state c.args.world.now).truth in
    let root = c.args.root in
    let named = c.args.named.now in
    let levels = c.args.levels in
    let s = setting_in truth root named in
    let inv = c.loop-global.invariant in
    let i = c.loop-global.global-index in
    let values = map held_of c.loop-global.values.items in
    let call = root_call s in
    let same = c.in_ok-call.ensures.call ∙ ap (λ a. rule_call nowhere None [] 1 root 1 (a (Choice root None AllRules))) inv.truth in
    let first : Hand = record { reuse = c.args.reuse.now; entries = [] } in
    let now = hand_of c.loop-global.reuse c.loop-global.memo in
    let later = hand_of c.first_means-came.new.reuse c.first_means-came.new.memo in
    let is = entered_by_run s levels s.globals [] call in
    let over = root_over root named levels c.first_means-came.result now later (c.root_call.ensures.truth ∙ inv.truth) c.as_slice-2.ensures.value refl same
    c.first_means-came.ensures.counts in
    λ within of_run. on_ok c.finished.result c.finished.ensures (λ w f.
    (turns_ended s levels values call is first now later of_run (turns_none s levels named i values call is first now (omega arith) (inv.turns within of_run))
    (of_finished w c.loop-global.told.items c.first_means-came.result f over)).2)
