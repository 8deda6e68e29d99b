use Rattle.std.proofs.Common.{◌≤◌, drop, length}
use Rattle.xt_record.specs.Asked.{NoUnitIsAsked}
use Rattle.xt_record.proofs.pool.Pool.last_unit.Given as goal

abbrev pub invariant-loop-end : goal.invariant-loop-end
invariant-loop-end l = record {
  within : l.end ≤ length l.self.records.items;
  none : NoUnitIsAsked (drop l.end l.self.records.items);
}

abbrev pub decreases-loop-end : goal.decreases-loop-end
decreases-loop-end l = l.end
