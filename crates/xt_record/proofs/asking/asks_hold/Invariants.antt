use Rattle.std.proofs.Common.{◌≡◌, map, take}
use Rattle.xt_engine.specs.View.{event_of}
use Rattle.xt_record.specs.Asked.{Asks}
use Rattle.xt_record.specs.View.{AsksHold}
use Rattle.xt_touch.specs.View.{since_of}
use Rattle.xt_record.proofs.asking.asks_hold.Given as goal

-- all before this one hold, and no other was asked
abbrev pub invariant-loop-event : goal.invariant-loop-event
invariant-loop-event g l =
    let state = g.W.World.state in
    record {
      holds : AsksHold (state l.fn.world).truth (map event_of (take l.event-index l.events));
      steps : Asks (since_of l.spared.since.now) (map event_of (take l.event-index l.events)) l.fn.steps l.steps;
      truth : (state l.world).truth ≡ (state l.fn.world).truth;
      name : g.W.World.name l.world ≡ g.W.World.name l.fn.world;
    }
