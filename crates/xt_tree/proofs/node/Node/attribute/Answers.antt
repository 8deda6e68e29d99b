use Rattle.std.proofs.Common.{Some, sym, ap, ◌∙◌}
use Rattle.spec_document.specs.Place.{at_number, attributes_in}
use Rattle.xt_tree.specs.View.{content_of}
use Rattle.xt_tree.proofs.Views.{view-Node}
use Rattle.xt_tree.proofs.node.Node.attribute.Goals as goal

pub returns : goal.returns
returns c =
    c.attribute.ensures ∙ ap (λ x. at_number c.args.number (attributes_in (Some (content_of x)))) c.deref.ensures
    ∙ ap (λ t. at_number c.args.number (attributes_in (Some t.content))) (sym (view-Node c.args.self.now))
