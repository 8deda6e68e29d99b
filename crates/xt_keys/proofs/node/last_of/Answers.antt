use Rattle.xt_keys.proofs.OneNode.{last_is}
use Rattle.xt_keys.proofs.node.last_of.Goals as goal

pub returns : goal.returns
returns c = last_is _ c.in-Some.list c.in-Some.is c.pop.ensures.items
