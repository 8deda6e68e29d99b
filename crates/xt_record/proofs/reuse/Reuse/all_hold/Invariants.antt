use Rattle.std.proofs.Common.{◌≡◌, ◌≤◌, suc}
use Rattle.xt_record.specs.Asked.{Judges}
use Rattle.xt_record.specs.Sure.{from_to, AllHold, IsSure}
use Rattle.xt_record.proofs.reuse.Reuse.all_hold.Given as goal

abbrev pub invariant-loop-end : goal.invariant-loop-end
invariant-loop-end g l =
    let state = g.W.World.state in
    record {
      up_to : l.end ≤ suc l.turn;
      down_to : l.first ≤ suc l.turn → l.first ≤ l.end;
      holds : AllHold (state l.fn.world).truth (from_to l.end (suc l.turn) l.fn.self.last.now.records.items);
      sure : IsSure (state l.fn.world).truth l.self;
      judges : Judges l.fn.self l.self;
      truth : (state l.world).truth ≡ (state l.fn.world).truth;
      name : g.W.World.name l.world ≡ g.W.World.name l.fn.world;
    }

abbrev pub decreases-loop-end : goal.decreases-loop-end
decreases-loop-end g l = l.end
