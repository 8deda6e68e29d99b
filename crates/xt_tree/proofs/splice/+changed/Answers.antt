use Rattle.std.proofs.Common.{◌≡◌, sym, ap, ◌∙◌}
use Rattle.spec_edit.specs.Splice.{children_changed, replaced}
use Rattle.xt_tree.specs.Remade.{with_tree}
use Rattle.xt_tree.specs.View.{content_of, forest_of, tree_of}
use Rattle.xt_tree.proofs.Changed.{below_nowhere, below_put, with_below, within_siblings}
use Rattle.xt_tree.proofs.Site.{children-is}
use Rattle.xt_tree.proofs.Views.{view-Node}
use Rattle.xt_tree.proofs.splice.+changed.Goals as goal

pub returns-in_default-sibling_at : goal.returns-in_default-sibling_at
returns-in_default-sibling_at t c =
    let f = forest_of c.args.siblings.now in
    let change = replaced c.args.from c.args.to (forest_of c.args.others.now) in
    c.in_ok-unchanged.ensures
    ∙ sym (below_nowhere (children_changed change c.in-Some.below.now) f c.in-Some.position.now c.in_default-sibling_at.ensures)
    ∙ ap (λ ps. children_changed change ps f) (sym c.in-Some.ensures.cases.0)

pub with_node-requires : goal.with_node-requires
with_node-requires t c =
    within_siblings c.args.siblings.now c.in-Some.position.now (tree_of c.in-Some-sibling_at.found.now) c.in-Some-sibling_at.ensures

pub returns : goal.returns
returns t c =
    let f = forest_of c.args.siblings.now in
    let change = replaced c.args.from c.args.to (forest_of c.args.others.now) in
    let p = c.in-Some.position.now in
    let inner = children_changed change c.in-Some.below.now in
    let x = c.in-Some-sibling_at.found.now in
    let number = ap (λ x. x.number) (sym (view-Node x)) in
    let content = ap content_of c.in_ok-content.ensures.cases ∙ ap (λ x. x.content) (sym (view-Node x)) in
    let children = c.in_ok-children.ensures ∙ ap inner (sym (children-is x c.as_slice.result.now c.as_slice.ensures.value)) in
    let made : tree_of c.node-made.result ≡ with_below (tree_of x) (inner (tree_of x).children) =
    c.node-made.ensures ∙ (λ i. record { number = number i; content = content i; children = children i }) in
    c.in_ok-list.ensures ∙ ap (λ y. with_tree p y f) made ∙ below_put inner f p (tree_of x) c.in-Some-sibling_at.ensures
    ∙ ap (λ ps. children_changed change ps f) (sym c.in-Some.ensures.cases.0)
