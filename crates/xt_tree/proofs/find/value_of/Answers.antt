use Rattle.xt_tree.proofs.Views.{view-Node}
use Rattle.xt_tree.proofs.find.value_of.Goals as goal

pub returns-in-Element : goal.returns-in-Element
returns-in-Element c =
    rw (← c.content.ensures, c.in-Element.is) (rw (view-Node c.args.node.now, ← c.as_slice.ensures.value) c.texts_of.ensures)
