use Rattle.std.proofs.Common.{◌≡◌, ◌-◌, refl, sym, subst, arith}
use Rattle.std.specs.Prelude.{IfOk, OnOk}
use Rattle.spec_run.specs.Meaning.{meaning}
use Rattle.spec_reuse.specs.Instantiation.{entered}
use Rattle.xt_engine.specs.View.{call_of}
use Rattle.xt_record.specs.Grown.{values_of}
use Rattle.xt_record.specs.Sure.{IsSure}
use Rattle.xt_record.proofs.Ok.{if_both}
use Rattle.xt_driver.specs.View.{setting_of, past_of, outcome_of}
use Rattle.xt_driver.specs.Remembered.{Keeps, Lasts}
use Rattle.xt_driver.specs.Referring.{entries_of}
use Rattle.xt_driver.specs.Counted.{hand_of, CountsOver}
use Rattle.xt_driver.proofs.Standing.{if_ok}
use Rattle.xt_driver.proofs.Onward.{on_any, remembers_there}
use Rattle.xt_driver.proofs.Coming.{Ask, on_all, sure_there}
use Rattle.xt_driver.proofs.Said.{counts_from, counts_said, lasts_said, means_said, outcome_said, said_in, unsaid_in}
use Rattle.xt_driver.proofs.drive.first_means.Goals as goal

pub returns-in-Some-clause-lasts : goal.returns-in-Some-clause-lasts
returns-in-Some-clause-lasts g c =
    let truth = (g.W.World.state c.args.world.now).truth in
    let globals = c.args.globals.now in
    let s = setting_of truth globals in
    let past = past_of globals in
    let call = call_of c.args.call.now in
    let x = c.in-Some.said in
    let last = values_of c.args.reuse.now.last.now.records.items in
    let said = (said_in truth c.args.reuse.now c.said.new.self call c.args.levels c.in_ok-said.field-0 x c.in-Some.is c.in_ok-said.ensures.said).said in
    if_ok c.whole_again.result (if_both _ _ c.whole_again.result c.whole_again.ensures.outcome c.whole_again.ensures.spare) (λ o both.
    let spare = both.1 in
    let low = said.room in
    lasts_said s last call c.args.levels x.whole.value x.record.value refl said past (entries_of c.args.memo.now) (c.args.levels - o.value.spare)
    (outcome_of o.value) (omega (arith, spare, low))
    (outcome_said s last call c.args.levels x.whole.value x.record.value refl said (outcome_of o.value) both.0))

pub returns-in-Some-clause-meaning : goal.returns-in-Some-clause-meaning
returns-in-Some-clause-meaning g c =
    let truth = (g.W.World.state c.args.world.now).truth in
    let globals = c.args.globals.now in
    let s = setting_of truth globals in
    let past = past_of globals in
    let call = call_of c.args.call.now in
    let x = c.in-Some.said in
    let last = values_of c.args.reuse.now.last.now.records.items in
    let said = (said_in truth c.args.reuse.now c.said.new.self call c.args.levels c.in_ok-said.field-0 x c.in-Some.is c.in_ok-said.ensures.said).said in
    if_ok c.whole_again.result c.whole_again.ensures.outcome (λ o is.
    means_said s last call c.args.levels x.whole.value x.record.value refl said past (outcome_of o.value)
    (outcome_said s last call c.args.levels x.whole.value x.record.value refl said (outcome_of o.value) is))

pub returns-in-Some-clause-counts : goal.returns-in-Some-clause-counts
returns-in-Some-clause-counts g c =
    let truth = (g.W.World.state c.args.world.now).truth in
    let globals = c.args.globals.now in
    let s = setting_of truth globals in
    let call = call_of c.args.call.now in
    let x = c.in-Some.said in
    let last = values_of c.args.reuse.now.last.now.records.items in
    let taken = said_in truth c.args.reuse.now c.said.new.self call c.args.levels c.in_ok-said.field-0 x c.in-Some.is c.in_ok-said.ensures.said in
    on_any c.whole_again.result (counts_said s last call c.args.levels x.whole.value x.record.value refl taken.said c.args.reuse.now c.said.new.self refl
    c.said.ensures.looks taken.next (past_of globals) (entries_of c.args.memo.now))

pub first_anew-requires : goal.first_anew-requires
first_anew-requires g c =
    let globals = c.args.globals.now in
    record {
      remembers = remembers_there (λ a. setting_of a globals) (past_of globals) (entries_of c.args.memo.now) c.said.ensures.truth c.requires.remembers;
      sure = sure_there (sym c.said.ensures.truth) c.in_ok-said.ensures.sure;
    }

pub returns-in-None-clause-keeps : goal.returns-in-None-clause-keeps
returns-in-None-clause-keeps g c =
    let globals = c.args.globals.now in
    let T : Ask → Type 0 = λ a. OnOk c.first_anew.result (Keeps (setting_of a globals) (past_of globals) (entries_of c.args.memo.now) (entries_of c.first_anew.new.memo)) in
    subst T c.said.ensures.truth c.first_anew.ensures.keeps

pub returns-in-None-clause-lasts : goal.returns-in-None-clause-lasts
returns-in-None-clause-lasts g c =
    let globals = c.args.globals.now in
    let T : Ask → Type 0 = λ a. IfOk c.first_anew.result (λ o. Lasts (setting_of a globals) (past_of globals) (c.args.levels - o.value.spare)
    (entries_of c.first_anew.new.memo) (call_of c.args.call.now) (outcome_of o.value)) in
    subst T c.said.ensures.truth c.first_anew.ensures.lasts

pub returns-in-None-clause-meaning : goal.returns-in-None-clause-meaning
returns-in-None-clause-meaning g c =
    let globals = c.args.globals.now in
    let T : Ask → Type 0 = λ a. IfOk c.first_anew.result (λ o. outcome_of o.value ≡ meaning (setting_of a globals) c.args.levels (past_of globals) 0
    (call_of c.args.call.now)) in
    subst T c.said.ensures.truth c.first_anew.ensures.meaning

pub returns-in-None-clause-counts : goal.returns-in-None-clause-counts
returns-in-None-clause-counts g c =
    let truth = (g.W.World.state c.args.world.now).truth in
    let globals = c.args.globals.now in
    let s = setting_of truth globals in
    let past = past_of globals in
    let call = call_of c.args.call.now in
    let none = unsaid_in c.args.reuse.now c.said.new.self c.in_ok-said.field-0 c.in-None.is c.in_ok-said.ensures.unsaid in
    let T : Ask → Type 0 = λ a. OnOk c.first_anew.result (CountsOver (setting_of a globals) past.values (entered (setting_of a globals) c.args.levels past 0 call)
    (hand_of c.said.new.self c.args.memo.now) (hand_of c.first_anew.new.reuse c.first_anew.new.memo)) in
    on_all c.first_anew.result (subst T c.said.ensures.truth c.first_anew.ensures.counts) (λ over.
    counts_from s past.values (entered s c.args.levels past 0 call) c.args.reuse.now c.said.new.self (entries_of c.args.memo.now)
    (hand_of c.first_anew.new.reuse c.first_anew.new.memo) c.said.ensures.looks none over)

pub returns-in-None-clause-sure : goal.returns-in-None-clause-sure
returns-in-None-clause-sure g c =
    let T : Ask → Type 0 = λ a. OnOk c.first_anew.result (IsSure a c.first_anew.new.reuse) in
    subst T c.said.ensures.truth c.first_anew.ensures.sure
