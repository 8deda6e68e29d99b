use Rattle.std.proofs.Common.{◌≤◌, length}
use Rattle.xt_record.proofs.pool.Pool.turns_between.Given as goal

abbrev pub invariant-loop-end : goal.invariant-loop-end
invariant-loop-end l = l.end ≤ length l.self.records.items

abbrev pub decreases-loop-end : goal.decreases-loop-end
decreases-loop-end l = l.end
