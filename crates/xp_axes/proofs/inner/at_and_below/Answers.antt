use Rattle.std.proofs.Common.{sym, subst}
use Rattle.xp_axes.specs.View.{AreNodesOf}
use Rattle.xp_axes.proofs.Inside.{there, nodes_below}
use Rattle.xp_axes.proofs.inner.at_and_below.Goals as goal

pub keep_below-requires : goal.keep_below-requires
keep_below-requires c =
    let d = c.args.document.now in
    let number = c.args.node.now.node.number in
    let i = there d c.distinct_numbers.ensures c.args.node.now c.requires in
    let element = i.entry.is.at.element in
    subst (AreNodesOf d) (sym (c.children_of-children.ensures element i.found)) (nodes_below d c.distinct_numbers.ensures number element i.found)
