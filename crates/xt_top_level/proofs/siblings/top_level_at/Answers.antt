use Rattle.std.proofs.Common.{◌∙◌, sym, ap}
use Rattle.xt_content.specs.View.{around_in}
use Rattle.xt_tree.specs.View as nodes
use Rattle.xt_tree.specs.View.{forest_of, tree_of}
use Rattle.xt_top_level.proofs.Elements.{at_element}
use Rattle.xt_top_level.proofs.Steps.{answers_as}
use Rattle.xt_top_level.proofs.siblings.top_level_at.Goals as goal

pub returns-in-Element : goal.returns-in-Element
returns-in-Element c =
    answers_as (at_element (around_in c.args.around.now) c.args.path.now c.args.position (tree_of c.args.node.now) c.in-Element.name c.as_slice.result.now c.in-Element.attributes.items
    (forest_of c.children.result.now) (ap nodes.content_of (sym c.in-Element.is) ∙ c.content.ensures) c.as_slice.ensures.value c.children.ensures.forest) c.element_at.ensures
