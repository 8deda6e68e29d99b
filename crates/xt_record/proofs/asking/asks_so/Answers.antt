use Rattle.std.proofs.Common.{◌∷◌, [], refl, subst, sym}
use Rattle.xt_engine.specs.View.{event_of}
use Rattle.xt_engine.specs.declared.event.Event.{Event}
use Rattle.xt_record.specs.View.{AsksHold}
use Rattle.xt_record.specs.Sure.{AsksSpared}
use Rattle.xt_record.proofs.asking.asks_so.Goals as goal

pub returns-then-spares-clause-holds : goal.returns-then-spares-clause-holds
returns-then-spares-clause-holds g c =
    let truth = (g.W.World.state c.args.world.now).truth in
    let Spared : Event → Type 0 = λ e. AsksSpared truth c.args.spared.now (event_of e ∷ []) in
    let Holds : Event → Type 0 = λ e. AsksHold truth (event_of e ∷ []) in
    let holds = subst Holds (sym c.in-Asked.is) ((subst Spared c.in-Asked.is c.requires.spared).0 (c.spares.ensures.spared c.if-spares.true), tt) in
    (λ _. holds, λ _. refl)
