use Rattle.std.proofs.Common.{length}
use Rattle.xt_tree.proofs.remade.+with_content.Given as goal

abbrev pub decreases-with_content : goal.decreases-with_content
decreases-with_content l = length l.parent.now
