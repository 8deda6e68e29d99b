use Rattle.std.proofs.Common.{◌≡◌, ◌∙◌, ◌-◌, ℕ, suc, sym, ap, subst, arith}
use Rattle.std.specs.Prelude.{Box}
use Rattle.std.specs.declared.alloc.Global.{Global as Allocator}
use Rattle.spec_run.specs.Meaning.{meaning}
use Rattle.xt_engine.specs.View.{call_of}
use Rattle.xt_driver.specs.declared.came.Outcome.{Outcome as Came}
use Rattle.xt_driver.specs.View.{setting_of, past_of, outcome_of}
use Rattle.xt_driver.specs.Remembered.{Lasts}
use Rattle.xt_driver.specs.Referring.{entries_of}
use Rattle.xt_driver.proofs.Standing.{if_ok}
use Rattle.xt_driver.proofs.Onward.{on_any, remembers_there}
use Rattle.xt_driver.proofs.Along.{lost_there, keeps_there, served_as, served_not}
use Rattle.xt_driver.proofs.Coming.{Ask, sure_there, on_all}
use Rattle.xt_driver.specs.declared.drive.Served.{Served}
use Rattle.xt_driver.specs.Followed.{instance_of}
use Rattle.xt_driver.specs.Counted.{hand_of, CountsServed, CountedRun, IsMadeOf, OfRun}
use Rattle.xt_driver.proofs.Tallying.{means_none, means_served, run_counted, served_ready}
use Rattle.xt_driver.proofs.drive.first_anew.Goals as goal

pub returns-in-As-clause-lasts : goal.returns-in-As-clause-lasts
returns-in-As-clause-lasts g c =
    let truth = (g.W.World.state c.args.world.now).truth in
    let globals = c.args.globals.now in
    let s = setting_of truth globals in
    let past = past_of globals in
    let call = call_of c.args.call.now in
    let v = c.in_ok-outcome.field-0 in
    let mid = entries_of c.serve.new.memo in
    let room : suc (c.args.levels - 1) ≡ c.args.levels = omega arith in
    (served_as s past v (suc (c.args.levels - 1)) c.args.levels mid call c.in-As.outcome c.in_ok-outcome.ensures.served c.in-As.is room).1

pub returns-in-As-clause-meaning : goal.returns-in-As-clause-meaning
returns-in-As-clause-meaning g c =
    let truth = (g.W.World.state c.args.world.now).truth in
    let globals = c.args.globals.now in
    let s = setting_of truth globals in
    let past = past_of globals in
    let call = call_of c.args.call.now in
    let v = c.in_ok-outcome.field-0 in
    let mid = entries_of c.serve.new.memo in
    let room : suc (c.args.levels - 1) ≡ c.args.levels = omega arith in
    (served_as s past v (suc (c.args.levels - 1)) c.args.levels mid call c.in-As.outcome c.in_ok-outcome.ensures.served c.in-As.is room).0

pub run_call-requires-clause-remembers : goal.run_call-requires-clause-remembers
run_call-requires-clause-remembers g c =
    let globals = c.args.globals.now in
    remembers_there (λ a. setting_of a globals) (past_of globals) (entries_of c.serve.new.memo) c.serve.ensures.truth c.in_ok-outcome.ensures.keeps.remembers

pub run_call-requires-clause-sure : goal.run_call-requires-clause-sure
run_call-requires-clause-sure g c =
    sure_there (sym c.serve.ensures.truth) c.in_ok-outcome.ensures.sure

pub run_call-requires-clause-lost : goal.run_call-requires-clause-lost
run_call-requires-clause-lost g c =
    let truth = (g.W.World.state c.args.world.now).truth in
    let globals = c.args.globals.now in
    let past = past_of globals in
    let lost = served_not (setting_of truth globals) past c.in_ok-outcome.field-0 (suc (c.args.levels - 1)) (entries_of c.serve.new.memo) (call_of c.args.call.now) c.in-Not.lost c.in_ok-outcome.ensures.served c.in-Not.is in
    lost_there (λ a. setting_of a globals) past c.in-Not.lost c.serve.ensures.truth lost

pub returns-in_ok-ended-in-Not-clause-keeps : goal.returns-in_ok-ended-in-Not-clause-keeps
returns-in_ok-ended-in-Not-clause-keeps g c =
    let globals = c.args.globals.now in
    on_any c.keep_ended.result (keeps_there (λ a. setting_of a globals) (past_of globals) (entries_of c.args.memo.now) (entries_of c.serve.new.memo) (entries_of c.run_call.new.memo) c.serve.ensures.truth c.in_ok-outcome.ensures.keeps c.in_ok-ended-in-Not.ensures.keeps)

pub returns-in_ok-ended-in-Not-clause-lasts : goal.returns-in_ok-ended-in-Not-clause-lasts
returns-in_ok-ended-in-Not-clause-lasts g c =
    let truth = (g.W.World.state c.args.world.now).truth in
    let globals = c.args.globals.now in
    let past = past_of globals in
    let call = call_of c.args.call.now in
    let room : suc (c.args.levels - 1) ≡ c.args.levels = omega arith in
    let e = c.in_ok-ended-in-Not.ended in
    let new = entries_of c.run_call.new.memo in
    let P : Ask → Type 0 = λ a. Lasts (setting_of a globals) past (suc (c.args.levels - 1) - e.outcome.value.spare) new call (outcome_of e.outcome.value) in
    let Q : ℕ → Type 0 = λ n. Lasts (setting_of truth globals) past (n - e.outcome.value.spare) new call (outcome_of e.outcome.value) in
    let R : Box Came Allocator → Type 0 = λ o. Lasts (setting_of truth globals) past (c.args.levels - o.value.spare) new call (outcome_of o.value) in
    let lasts = subst Q room (subst P c.serve.ensures.truth c.in_ok-ended-in-Not.ensures.lasts) in
    if_ok c.keep_ended.result c.keep_ended.ensures.outcome (λ o h. subst R (sym h) lasts)

pub returns-in_ok-ended-in-Not-clause-meaning : goal.returns-in_ok-ended-in-Not-clause-meaning
returns-in_ok-ended-in-Not-clause-meaning g c =
    let truth = (g.W.World.state c.args.world.now).truth in
    let globals = c.args.globals.now in
    let past = past_of globals in
    let call = call_of c.args.call.now in
    let room : suc (c.args.levels - 1) ≡ c.args.levels = omega arith in
    let e = c.in_ok-ended-in-Not.ended in
    let meant = c.in_ok-ended-in-Not.ensures.meaning ∙ ap (λ a. meaning (setting_of a globals) (suc (c.args.levels - 1)) past 0 call) c.serve.ensures.truth
    ∙ ap (λ n. meaning (setting_of truth globals) n past 0 call) room in
    if_ok c.keep_ended.result c.keep_ended.ensures.outcome (λ o h. ap (λ (x : Box Came Allocator). outcome_of x.value) h ∙ meant)

pub returns-in_ok-ended-in-Not-clause-sure : goal.returns-in_ok-ended-in-Not-clause-sure
returns-in_ok-ended-in-Not-clause-sure g c =
    on_all c.keep_ended.result c.keep_ended.ensures.sure (λ keeps. sure_there c.serve.ensures.truth (keeps (g.W.World.state c.serve.new.world).truth c.in_ok-ended-in-Not.ensures.sure c.in_ok-ended-in-Not.ensures.asks))

pub returns-in-As-clause-counts : goal.returns-in-As-clause-counts
returns-in-As-clause-counts g c =
    let truth = (g.W.World.state c.args.world.now).truth in
    let globals = c.args.globals.now in
    let s = setting_of truth globals in
    let past = past_of globals in
    let i = instance_of (call_of c.args.call.now) (c.args.levels - 1) past in
    let first = hand_of c.args.reuse.now c.args.memo.now in
    let later = hand_of c.serve.new.reuse c.serve.new.memo in
    let room : suc (c.args.levels - 1) ≡ c.args.levels = omega arith in
    let P : Served → Type 0 = λ v. OfRun s i first (CountsServed v s i first later) in
    means_served s i c.args.levels first later room (subst P c.in-As.is c.in_ok-outcome.ensures.counts)

pub returns-in_ok-ended-in-Not-clause-counts : goal.returns-in_ok-ended-in-Not-clause-counts
returns-in_ok-ended-in-Not-clause-counts g c =
    let truth = (g.W.World.state c.args.world.now).truth in
    let globals = c.args.globals.now in
    let s = setting_of truth globals in
    let past = past_of globals in
    let i = instance_of (call_of c.args.call.now) (c.args.levels - 1) past in
    let first = hand_of c.args.reuse.now c.args.memo.now in
    let mid = hand_of c.serve.new.reuse c.serve.new.memo in
    let later = hand_of c.run_call.new.reuse c.run_call.new.memo in
    let last = hand_of c.keep_ended.new.reuse c.run_call.new.memo in
    let room : suc (c.args.levels - 1) ≡ c.args.levels = omega arith in
    let P : Served → Type 0 = λ v. OfRun s i first (CountsServed v s i first mid) in
    let served_so = subst P c.in-Not.is c.in_ok-outcome.ensures.counts in
    let ended = c.in_ok-ended-in-Not.ended in
    let R : Ask → Type 0 = λ a. OfRun (setting_of a globals) i mid (CountedRun (setting_of a globals) i c.in-Not.lost mid later) in
    let M : Ask → Type 0 = λ a. IsMadeOf (setting_of a globals) i ended.ran in
    let runs = subst R c.serve.ensures.truth c.in_ok-ended-in-Not.ensures.counts in
    let made = subst M c.serve.ensures.truth c.in_ok-ended-in-Not.ensures.made_of in
    on_all c.keep_ended.result c.keep_ended.ensures.kept (λ kept.
    means_served s i c.args.levels first last room (λ h ready.
    let x = served_so h ready in
    run_counted s i c.in-Not.lost first mid later c.keep_ended.new.reuse ended.ran h x (runs h (served_ready s i c.in-Not.lost first mid x)) made kept
    c.keep_ended.ensures.last c.keep_ended.ensures.steps))

pub returns-then-levels-eq0-clause-counts : goal.returns-then-levels-eq0-clause-counts
returns-then-levels-eq0-clause-counts g c =
    let globals = c.args.globals.now in
    on_any c.too_deep.result (means_none (setting_of (g.W.World.state c.args.world.now).truth globals) (past_of globals) (call_of c.args.call.now) c.args.levels
    (hand_of c.args.reuse.now c.args.memo.now) (omega arith))
