use Rattle.std.proofs.Common.{List, ap, ◌∙◌}
use Rattle.spec_node.specs.declared.node_ref.NodeRef.{NodeRef}
use Rattle.spec_touch.specs.Marks.{is_unit_among}
use Rattle.xt_touch.proofs.Among.{among_keys}
use Rattle.xt_touch.proofs.elements.Elements.has.Goals as goal

pub returns : goal.returns
returns c =
    c.contains.ensures ∙ among_keys c.self.inside.set.keys c.args.element
    ∙ ap (λ (es : List NodeRef). is_unit_among es c.args.element) c.self.view_is
