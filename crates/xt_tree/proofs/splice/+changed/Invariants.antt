use Rattle.std.proofs.Common.{length}
use Rattle.xt_tree.proofs.splice.+changed.Given as goal

abbrev pub decreases-changed : goal.decreases-changed
decreases-changed l = length l.path.now
