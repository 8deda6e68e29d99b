use Rattle.std.proofs.Common.{◌≡◌, ◌-◌, ◌<◌, Option, arith, subst}
use Rattle.std.specs.Prelude.{IfNone, IfSome}
use Rattle.xt_engine.specs.View.{call_of}
use Rattle.xt_record.specs.View.{DoesNotSuit}
use Rattle.xt_record.specs.Search.{kept_place, most}
use Rattle.xt_record.specs.declared.reuse.Found.{Found}
use Rattle.xt_record.proofs.Passing.{does_not_serve, pass_all, pass_later, pass_turn}
use Rattle.xt_record.proofs.reuse.Reuse.find_kept.Goals as goal

pub returns-in-Some-2-clause-passes : goal.returns-in-Some-2-clause-passes
returns-in-Some-2-clause-passes c = λ ask turn after before.
    let Next : Option Found → Type 0 = λ o. IfSome o (λ f. f.next ≡ most - c.in-Some.turn) in
    let next = subst Next c.in-Some-2.is c.in_ok-found.ensures.next in
    let later : c.in-Some.turn < turn = omega (arith, next, before) in
    pass_later ask (call_of c.args.call.now) c.args.below kept_place c.args.self.now.kept.records.items c.args.from c.loop-turn.end c.in-Some.turn
    c.in-Some.ensures.latest (c.loop-turn.invariant.passed ask) turn later after

pub loop-turn-preserved : goal.loop-turn-preserved
loop-turn-preserved c =
    let call = call_of c.args.call.now in
    let below = c.args.below in
    let rs = c.args.self.now.kept.records.items in
    let turn = c.in-Some.turn in
    let Suits : Option Found → Type 0 = λ o. IfNone o (DoesNotSuit call below rs turn) in
    let none = subst Suits c.in_default-2.is c.in_ok-found.ensures.passes in
    record {
      before = omega (arith, c.in-Some.ensures.below, c.loop-turn.invariant.before);
      passed = λ ask. pass_turn ask call below kept_place rs c.args.from c.loop-turn.end turn c.in-Some.ensures.latest
          (does_not_serve ask call below rs turn none) (c.loop-turn.invariant.passed ask);
    }

pub returns-clause-passes : goal.returns-clause-passes
returns-clause-passes c = λ ask turn after _.
    pass_all ask (call_of c.args.call.now) c.args.below kept_place c.args.self.now.kept.records.items c.args.from c.loop-turn.end
    c.in_default.ensures.latest (c.loop-turn.invariant.passed ask) turn after
