use Rattle.std.proofs.Common.{◌≤◌, length}
use Rattle.xt_record.proofs.frames.nearest.Given as goal

abbrev pub invariant-loop-left : goal.invariant-loop-left
invariant-loop-left l = l.left ≤ length l.ahead

abbrev pub decreases-loop-left : goal.decreases-loop-left
decreases-loop-left l = l.left
