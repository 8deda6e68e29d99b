use Rattle.std.proofs.Common.{◌∙◌, sym, ap, is_some}
use Rattle.std.specs.Option.{option_and_then}
use Rattle.xt_tree.specs.View.{numbered_node, part_of}
use Rattle.xt_tree.proofs.Ways.{attribute_there}
use Rattle.xt_tree.proofs.doc.Doc.has.Goals as goal

pub returns-in-Attribute : goal.returns-in-Attribute
returns-in-Attribute c =
    let o = numbered_node c.args.self.now c.args.node.now.node.number in
    c.has_attribute.ensures ∙ attribute_there c.in-Attribute.number o
    ∙ ap (λ p. is_some (option_and_then (part_of p) o)) (sym c.in-Attribute.is)
