use Rattle.std.proofs.Common.{◌≡◌, ◌≤◌, ◌-◌, ◌*◌}
use Rattle.xt_engine.specs.View.{call_of}
use Rattle.xt_record.specs.Asked.{Judges}
use Rattle.xt_record.specs.Search.{last_place, most}
use Rattle.xt_record.specs.Sure.{IsSure}
use Rattle.xt_record.proofs.Passing.{PassedFrom}
use Rattle.xt_record.proofs.reuse.Reuse.find_last.Given as goal

abbrev pub invariant-loop-turn : goal.invariant-loop-turn
invariant-loop-turn g l =
    let state = g.W.World.state in
    record {
      before : l.end ≤ 2 * most - l.from;
      passed : PassedFrom (state l.fn.world).truth (call_of l.call) l.below last_place l.fn.self.last.now.records.items l.from l.end;
      sure : IsSure (state l.fn.world).truth l.self;
      judges : Judges l.fn.self l.self;
      truth : (state l.world).truth ≡ (state l.fn.world).truth;
      name : g.W.World.name l.world ≡ g.W.World.name l.fn.world;
    }

abbrev pub decreases-loop-turn : goal.decreases-loop-turn
decreases-loop-turn g l = l.end
