use Rattle.std.proofs.Common.{◌≡◌, ◌≤◌, drop, length, map}
use Rattle.xt_engine.specs.View.{event_of}
use Rattle.xt_record.specs.Grown.{values_of, AreTrees}
use Rattle.xt_record.specs.Reached.{entered_in, IsReached}
use Rattle.xt_record.proofs.pool.Pool.whole_behind.Given as goal

abbrev pub invariant-loop-index : goal.invariant-loop-index
invariant-loop-index l =
    let vs = values_of l.self.records.items in
    let behind = map event_of (drop l.index l.events) in
    record {
      count : l.index ≤ length l.events;
      reached : AreTrees vs l.self.trees.items → IsReached vs behind l.reach;
      parts : length l.reach.parts.items ≡ entered_in behind;
      levels : l.kept.ran.height ≤ l.reach.levels;
    }

abbrev pub decreases-loop-index : goal.decreases-loop-index
decreases-loop-index l = l.index
