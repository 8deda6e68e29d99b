use Rattle.std.proofs.Common.{◌≡◌, ◌≤◌, drop, length}
use Rattle.xt_record.specs.Asked.{Judges, NoneMarkedAmong}
use Rattle.xt_record.specs.Sure.{IsSure}
use Rattle.xt_touch.specs.View.{since_of}
use Rattle.xt_record.proofs.reuse.Reuse.ask_what_is_left.Given as goal

abbrev pub invariant-loop-end : goal.invariant-loop-end
invariant-loop-end g l =
    let state = g.W.World.state in
    record {
      within : l.end ≤ length l.fn.self.last.now.records.items;
      quiet : l.self.steps.asked ≡ 0
          → NoneMarkedAmong (since_of l.fn.self.spared.now.since.now) (drop l.end l.fn.self.last.now.records.items);
      sure : IsSure (state l.fn.world).truth l.self;
      judges : Judges l.fn.self l.self;
      truth : (state l.world).truth ≡ (state l.fn.world).truth;
      name : g.W.World.name l.world ≡ g.W.World.name l.fn.world;
    }

abbrev pub decreases-loop-end : goal.decreases-loop-end
decreases-loop-end g l = l.end
