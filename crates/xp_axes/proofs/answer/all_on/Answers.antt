use Rattle.std.proofs.Common.{◌∙◌, sym, ap}
use Rattle.xp_axes.specs.View.{on_axis}
use Rattle.xp_axes.proofs.Reached.{more_known}
use Rattle.xp_axes.proofs.Located.{attributes_are, namespaces_are}
use Rattle.xp_axes.proofs.Inside.{there}
use Rattle.xp_axes.proofs.answer.all_on.Goals as goal

pub returns-in-Attribute : goal.returns-in-Attribute
returns-in-Attribute c =
    let d = c.args.document.now in
    let r = c.args.node.now in
    let i = there d c.distinct_numbers.ensures r c.requires in
    more_known _ _ c.attributes.result
    (λ nodes known. known i.entry.is.at.element i.found ∙ sym (attributes_are d r i.path i.entry c.in-Itself.is)
    ∙ ap (λ x. on_axis d x r) (sym c.in-Attribute.is))
    c.attributes.ensures

pub returns-in-Namespace : goal.returns-in-Namespace
returns-in-Namespace c =
    let d = c.args.document.now in
    let r = c.args.node.now in
    let i = there d c.distinct_numbers.ensures r c.requires in
    more_known _ _ c.namespaces.result
    (λ nodes known. known i.entry.is.at.element i.found ∙ sym (namespaces_are d r i.path i.entry c.in-Itself.is)
    ∙ ap (λ x. on_axis d x r) (sym c.in-Namespace.is))
    c.namespaces.ensures
