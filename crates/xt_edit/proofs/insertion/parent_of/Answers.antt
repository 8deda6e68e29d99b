use Rattle.xt_edit.proofs.Inserting.{element-parent}
use Rattle.xt_edit.proofs.insertion.parent_of.Goals as goal

pub returns-then-is_element : goal.returns-then-is_element
returns-then-is_element c =
    element-parent c.args.document.now c.args.path.now c.in-Some.node.now _ c.in-Some.ensures c.content.ensures c.if-is_element.ensures
