use Rattle.std.proofs.Common.{length}
use Rattle.xt_edit.proofs.carrying.+push_below.Given as goal

abbrev pub decreases-push_below : goal.decreases-push_below
decreases-push_below l = length l.path.now
