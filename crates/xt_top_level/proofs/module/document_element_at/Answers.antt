use Rattle.std.proofs.Common.{map, ap, sym, ◌∙◌}
use Rattle.xt_structure.specs.View.{in_force}
use Rattle.xt_tree.specs.View as nodes
use Rattle.xt_tree.specs.View.{tree_of, written_of}
use Rattle.xt_top_level.specs.Element.{stylesheet_reading}
use Rattle.xt_top_level.proofs.Elements.{at_document}
use Rattle.xt_top_level.proofs.Steps.{answers_as, answers_give}
use Rattle.xt_top_level.proofs.module.document_element_at.Goals as goal

pub returns-in-Nothing : goal.returns-in-Nothing
returns-in-Nothing c =
    answers_as (at_document c.args.name.now c.args.position (tree_of c.args.node.now) c.in-Element.element c.as_slice.result.now c.in-Element.attributes.items
    (ap nodes.content_of (sym c.in-Element.is) ∙ c.content.ensures) c.as_slice.ensures.value c.in_ok-inside-in-Element.ensures (sym c.in-Nothing.is ∙ c.kind_of.ensures))
    (answers_give (ap (map _) c.new.ensures.items))

pub returns-in-Stylesheet : goal.returns-in-Stylesheet
returns-in-Stylesheet c =
    answers_as ((λ i. stylesheet_reading c.args.name.now c.args.position (in_force c.in_ok-inside-in-Element.inside) c.in-Stylesheet.element
    (map written_of (c.as_slice-in-Stylesheet.ensures.value i)) (c.children.ensures.forest i))
    ∙ at_document c.args.name.now c.args.position (tree_of c.args.node.now) c.in-Element.element c.as_slice.result.now c.in-Element.attributes.items
    (ap nodes.content_of (sym c.in-Element.is) ∙ c.content.ensures) c.as_slice.ensures.value c.in_ok-inside-in-Element.ensures (sym c.in-Stylesheet.is ∙ c.kind_of.ensures))
    c.stylesheet_at.ensures

pub returns-in-Simplified : goal.returns-in-Simplified
returns-in-Simplified c =
    answers_as (at_document c.args.name.now c.args.position (tree_of c.args.node.now) c.in-Element.element c.as_slice.result.now c.in-Element.attributes.items
    (ap nodes.content_of (sym c.in-Element.is) ∙ c.content.ensures) c.as_slice.ensures.value c.in_ok-inside-in-Element.ensures (sym c.in-Simplified.is ∙ c.kind_of.ensures))
    c.simplified_at.ensures
