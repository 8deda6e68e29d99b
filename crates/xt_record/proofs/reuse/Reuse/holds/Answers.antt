use Rattle.std.proofs.Common.{◌∙◌, Decides, List, ap, map, refl, subst, sym, arith}
use Rattle.xt_engine.specs.View.{event_of}
use Rattle.xt_engine.specs.declared.event.Event.{Event}
use Rattle.xt_record.specs.View.{AsksHold}
use Rattle.xt_record.specs.Asked.{marked_in, marked_of}
use Rattle.xt_record.specs.Sure.{AsksSpared, IsTrueOf}
use Rattle.xt_record.specs.declared.record.Record.{Record}
use Rattle.xt_record.proofs.Counting.{counted_now, fails_asked, holds_asked, left_at, left_most, left_now}
use Rattle.xt_record.proofs.Judging.{all_spared_at, as_many_judged, judged_at, judged_now, judged_so}
use Rattle.xt_touch.specs.View.{since_of}
use Rattle.xt_record.proofs.reuse.Reuse.holds.Goals as goal

pub index-verdict-requires : goal.index-verdict-requires
index-verdict-requires g c =
    let truth = (g.W.World.state c.args.world.now).truth in
    let self = c.args.self.now in
    omega (arith, self.verdicts.ok.0, c.requires.within, as_many_judged truth self.verdicts.items self.last.now.records.items c.requires.sure.judged)

pub index_mut-requires : goal.index_mut-requires
index_mut-requires g c =
    let truth = (g.W.World.state c.args.world.now).truth in
    let self = c.args.self.now in
    omega (arith, self.verdicts.ok.0, c.requires.within, as_many_judged truth self.verdicts.items self.last.now.records.items c.requires.sure.judged)

pub returns-in-Holds-clause-holds : goal.returns-in-Holds-clause-holds
returns-in-Holds-clause-holds g c =
    let truth = (g.W.World.state c.args.world.now).truth in
    let self = c.args.self.now in
    let kept = c.args.kept.now in
    let k = c.requires in
    let judged = judged_at truth self.verdicts.items self.last.now.records.items c.args.turn c.index-verdict.result.now kept c.index-verdict.ensures
    k.within k.at k.sure.judged in
    let holds = subst (λ v. IsTrueOf truth v kept.value) c.in-Holds.is judged in
    (λ _. holds, λ _. refl)

pub returns-in-Fails-clause-holds : goal.returns-in-Fails-clause-holds
returns-in-Fails-clause-holds g c =
    let truth = (g.W.World.state c.args.world.now).truth in
    let self = c.args.self.now in
    let kept = c.args.kept.now in
    let k = c.requires in
    let judged = judged_at truth self.verdicts.items self.last.now.records.items c.args.turn c.index-verdict.result.now kept c.index-verdict.ensures
    k.within k.at k.sure.judged in
    let fails = subst (λ v. IsTrueOf truth v kept.value) c.in-Fails.is judged in
    (λ is. absurd (cc), λ holds. absurd (fails holds))

pub asks_hold-requires : goal.asks_hold-requires
asks_hold-requires g c =
    let truth = (g.W.World.state c.args.world.now).truth in
    let self = c.args.self.now in
    let spared = self.spared.now in
    let Spared : List Event → Type 0 = λ es. AsksSpared truth spared (map event_of es) in
    let InIt : Record → Type 0 = λ r. Spared r.ran.events.items in
    record {
      spared = subst Spared (sym c.as_slice-events.ensures.value) (subst InIt (sym c.deref.ensures)
          (all_spared_at truth spared self.last.now.records.items c.args.turn c.args.kept.now c.requires.within c.requires.at c.requires.sure.spared));
    }

pub returns-in_ok-holds-in-Unasked-clause-sure : goal.returns-in_ok-holds-in-Unasked-clause-sure
returns-in_ok-holds-in-Unasked-clause-sure g c =
    let truth = (g.W.World.state c.args.world.now).truth in
    let self = c.args.self.now in
    let vs = self.verdicts.items in
    let rs = self.last.now.records.items in
    let turn = c.args.turn in
    let kept = c.args.kept.now in
    let now = c.verdict_of.result in
    let holds = c.in_ok-holds-in-Unasked.holds in
    let k = c.requires in
    let changes = since_of self.spared.now.since.now in
    let Told : List Event → Type 0 = λ es. Decides holds (AsksHold truth (map event_of es)) in
    let ToldIn : Record → Type 0 = λ r. Told r.ran.events.items in
    let told = subst ToldIn c.deref.ensures (subst Told c.as_slice-events.ensures.value c.in_ok-holds-in-Unasked.ensures.holds) in
    let same = ap (λ es. marked_in changes (map event_of es)) c.as_slice-events.ensures.value ∙ ap (λ r. marked_in changes (map event_of r.ran.events.items)) c.deref.ensures in
    record {
      kept = k.sure.kept;
      judged = judged_now truth vs rs turn now kept k.within k.at (judged_so truth holds now kept.value c.verdict_of.ensures told) k.sure.judged;
      spared = k.sure.spared;
      counted = counted_now changes self.steps.asked c.asks_hold.new.steps.asked (marked_of changes self.last.now) holds now vs rs turn c.index-verdict.result.now kept (map event_of c.as_slice-events.result.now) c.verdict_of.ensures
          (omega (arith, k.within, as_many_judged truth vs rs k.sure.judged))
          c.index-verdict.ensures c.in-Unasked.is k.within k.at same c.asks_hold.ensures.steps.most k.sure.counted;
      next = k.sure.next;
      grown = k.sure.grown;
      trees = k.sure.trees;
      ordered = k.sure.ordered;
    }

pub returns-in_ok-holds-in-Unasked-clause-left : goal.returns-in_ok-holds-in-Unasked-clause-left
returns-in_ok-holds-in-Unasked-clause-left g c =
    let truth = (g.W.World.state c.args.world.now).truth in
    let self = c.args.self.now in
    let vs = self.verdicts.items in
    let rs = self.last.now.records.items in
    let k = c.requires in
    let changes = since_of self.spared.now.since.now in
    omega (
      arith,
      left_now changes c.in_ok-holds-in-Unasked.holds c.verdict_of.result vs rs c.args.turn c.index-verdict.result.now c.args.kept.now c.verdict_of.ensures
          (omega (arith, k.within, as_many_judged truth vs rs k.sure.judged))
          c.index-verdict.ensures c.in-Unasked.is k.within k.at,
      left_most changes vs rs,
    )

pub returns-in-Holds-clause-left : goal.returns-in-Holds-clause-left
returns-in-Holds-clause-left g c =
    let truth = (g.W.World.state c.args.world.now).truth in
    let self = c.args.self.now in
    let rs = self.last.now.records.items in
    let k = c.requires in
    left_at (since_of self.spared.now.since.now) self.verdicts.items rs c.args.turn c.index-verdict.result.now c.args.kept.now
    (omega (arith, k.within, as_many_judged truth self.verdicts.items rs k.sure.judged)) k.within c.index-verdict.ensures
    (λ unasked. holds_asked (sym c.in-Holds.is ∙ unasked)) k.at

pub returns-in-Fails-clause-left : goal.returns-in-Fails-clause-left
returns-in-Fails-clause-left g c =
    let truth = (g.W.World.state c.args.world.now).truth in
    let self = c.args.self.now in
    let rs = self.last.now.records.items in
    let k = c.requires in
    left_at (since_of self.spared.now.since.now) self.verdicts.items rs c.args.turn c.index-verdict.result.now c.args.kept.now
    (omega (arith, k.within, as_many_judged truth self.verdicts.items rs k.sure.judged)) k.within c.index-verdict.ensures
    (λ unasked. fails_asked (sym c.in-Fails.is ∙ unasked)) k.at
