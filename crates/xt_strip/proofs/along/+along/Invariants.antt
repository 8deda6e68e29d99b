use Rattle.std.proofs.Common.{◌+◌, ◌*◌, length}
use Rattle.xt_strip.proofs.along.+along.Given as goal

abbrev pub decreases-along : goal.decreases-along
decreases-along l = 2 * length l.path.now

abbrev pub decreases-below : goal.decreases-below
decreases-below l = 2 * length l.path.now + 1
