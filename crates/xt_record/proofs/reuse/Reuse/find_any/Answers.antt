use Rattle.std.proofs.Common.{◌≤◌, Option, arith, subst}
use Rattle.std.specs.Prelude.{IfSome}
use Rattle.xt_engine.specs.View.{call_of}
use Rattle.xt_record.specs.Search.{kept_place, most, PassedAmong}
use Rattle.xt_record.specs.declared.reuse.Found.{Found}
use Rattle.xt_record.proofs.Ok.{if_ok}
use Rattle.xt_record.proofs.Judging.{as_many_judged}
use Rattle.xt_record.proofs.Passing.{at_most, over_kept, over_last}
use Rattle.xt_record.proofs.reuse.Reuse.find_any.Goals as goal

pub returns-in-Some-clause-complete : goal.returns-in-Some-clause-complete
returns-in-Some-clause-complete g c =
    let truth = (g.W.World.state c.args.world.now).truth in
    let self = c.args.self.now in
    let call = call_of c.args.call.now in
    let k = c.in_ok-found.ensures in
    let Within : Option Found → Type 0 = λ o. IfSome o (λ f. f.next ≤ most) in
    let Passed : Option Found → Type 0 = λ o. PassedAmong truth call c.args.below kept_place self.kept.records.items c.args.from o in
    over_kept truth call c.args.below self c.args.from c.in-Some.found
    (omega (arith, as_many_judged truth self.verdicts.items self.last.now.records.items c.requires.sure.judged, at_most self.verdicts)) (subst Within c.in-Some.is k.within) (subst Passed c.in-Some.is (k.passes truth))

pub returns-clause-complete : goal.returns-clause-complete
returns-clause-complete g c =
    let truth = (g.W.World.state c.args.world.now).truth in
    let self = c.args.self.now in
    let call = call_of c.args.call.now in
    let Passed : Option Found → Type 0 = λ o. PassedAmong truth call c.args.below kept_place self.kept.records.items c.args.from o in
    let kept = subst Passed c.in_default.is (c.in_ok-found.ensures.passes truth) in
    if_ok c.find_last.result c.find_last.ensures.passes (λ o passed. over_last truth call c.args.below self c.args.from o kept passed)
