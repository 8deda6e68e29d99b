use Rattle.xt_tree.proofs.Changed.{same_nodes}
use Rattle.xt_tree.proofs.remade.shared.Goals as goal

pub returns : goal.returns
returns c = same_nodes _ _ c.in_ok-from_clones.ensures.items
