use Rattle.std.proofs.Common.{◌≡◌, map, sym, ap, ◌∙◌}
use Rattle.std.specs.List.{list_any}
use Rattle.std.proofs.lemmas.Result.{err_from_is_err_and}
use Rattle.spec_document.specs.Forest.{Element}
use Rattle.spec_edit.specs.Edit.{RemoveAttribute, attribute_removed, is_named, without_attribute}
use Rattle.xt_tree.specs.View.{content_of, written_of, tree_of}
use Rattle.xt_edit.specs.Site.{spot_in}
use Rattle.xt_edit.proofs.Elements.{edits-so, attribute_removed-is}
use Rattle.xt_edit.proofs.Keeping.{keeps-removed}
use Rattle.xt_edit.proofs.Stays.{stays, stays-below}
use Rattle.xt_edit.proofs.attribute.remove_attribute.Goals as goal

pub returns-in_err-site-clause-edit : goal.returns-in_err-site-clause-edit
returns-in_err-site-clause-edit c =
    let p = err_from_is_err_and c.from_residual.result c.from_residual.ensures.1 in
    rw (p.1, p.2) (c.in_err-site.ensures c.args.first.number
    (λ spot. attribute_removed (λ nodes. nodes) c.args.first.number spot c.args.document.now c.args.name.now))

pub change-requires-clause-keeps : goal.change-requires-clause-keeps
change-requires-clause-keeps c =
    let node = c.in_ok-site.site.node.now in
    let own = c.in-Element.own in
    let attributes = map written_of c.in-Element.attributes.items in
    let was : (tree_of node).content ≡ Element own attributes = sym c.content.ensures ∙ ap content_of c.in-Element.is in
    let list : map written_of c.in_ok-attributes_without-in-Element.field-0.items ≡ without_attribute c.args.name.now attributes =
    c.in_ok-attributes_without-in-Element.ensures ∙ ap (λ l. without_attribute c.args.name.now (map written_of l)) c.as_slice-in-Element.ensures.value in
    keeps-removed own c.args.name.now attributes _ _ was (λ i. Element (c.in_ok-copy-in-Element.ensures i) (list i))

pub change-requires-clause-permits : goal.change-requires-clause-permits
change-requires-clause-permits c new e =
    let node = c.in_ok-site.site.node.now in
    let own = c.in-Element.own in
    let attributes = map written_of c.in-Element.attributes.items in
    let was : (tree_of node).content ≡ Element own attributes = sym c.content.ensures ∙ ap content_of c.in-Element.is in
    let list : map written_of c.in_ok-attributes_without-in-Element.field-0.items ≡ without_attribute c.args.name.now attributes =
    c.in_ok-attributes_without-in-Element.ensures ∙ ap (λ l. without_attribute c.args.name.now (map written_of l)) c.as_slice-in-Element.ensures.value in
    let is = attribute_removed-is c.args.first.number c.args.document.now c.args.path.now (spot_in c.in_ok-site.site.spot) node c.in_ok-site.ensures
    own c.args.name.now attributes _ was
    (sym (c.has_attribute.ensures ∙ ap (λ l. list_any (is_named c.args.name.now) (map written_of l)) c.as_slice.ensures.value)
    ∙ c.if-not-has_attribute.false)
    (λ i. Element (c.in_ok-copy-in-Element.ensures i) (list i)) in
    stays c.args.first.number (RemoveAttribute c.args.path.now c.args.name.now) c.args.document.now c.requires c.stand.ensures new (is ∙ e)

pub returns-in_ok-attributes_without-in-Element-clause-edit : goal.returns-in_ok-attributes_without-in-Element-clause-edit
returns-in_ok-attributes_without-in-Element-clause-edit c =
    let node = c.in_ok-site.site.node.now in
    let own = c.in-Element.own in
    let attributes = map written_of c.in-Element.attributes.items in
    let was : (tree_of node).content ≡ Element own attributes = sym c.content.ensures ∙ ap content_of c.in-Element.is in
    let list : map written_of c.in_ok-attributes_without-in-Element.field-0.items ≡ without_attribute c.args.name.now attributes =
    c.in_ok-attributes_without-in-Element.ensures ∙ ap (λ l. without_attribute c.args.name.now (map written_of l)) c.as_slice-in-Element.ensures.value in
    let is = attribute_removed-is c.args.first.number c.args.document.now c.args.path.now (spot_in c.in_ok-site.site.spot) node c.in_ok-site.ensures
    own c.args.name.now attributes _ was
    (sym (c.has_attribute.ensures ∙ ap (λ l. list_any (is_named c.args.name.now) (map written_of l)) c.as_slice.ensures.value)
    ∙ c.if-not-has_attribute.false)
    (λ i. Element (c.in_ok-copy-in-Element.ensures i) (list i)) in
    edits-so c.args.document.now c.args.first.number c.change.result _ _ is c.change.ensures

pub returns-in_ok-attributes_without-in-Element-clause-below : goal.returns-in_ok-attributes_without-in-Element-clause-below
returns-in_ok-attributes_without-in-Element-clause-below c =
    stays-below c.args.first.number (RemoveAttribute c.args.path.now c.args.name.now) c.args.document.now c.change.result c.requires
    (returns-in_ok-attributes_without-in-Element-clause-edit c)
