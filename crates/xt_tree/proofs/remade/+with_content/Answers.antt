use Rattle.std.proofs.Common.{◌≡◌, ◌∙◌, arith, sym, ap, subst, IfOk}
use Rattle.spec_edit.specs.Splice.{children_changed, content_replaced}
use Rattle.xt_tree.specs.Remade.{with_tree}
use Rattle.xt_tree.specs.View.{content_of, forest_of, tree_of}
use Rattle.xt_tree.proofs.Changed.{within_siblings, below_put, below_nowhere, with_below}
use Rattle.xt_tree.proofs.Views.{view-Node}
use Rattle.xt_tree.proofs.remade.+with_content.Goals as goal

pub with_content-requires : goal.with_content-requires
with_content-requires t c = let shorter = (c.in-Some.ensures {u = tt}).cases.1 in (omega (arith, shorter), tt)

pub with_node-requires : goal.with_node-requires
with_node-requires t c =
    within_siblings c.args.siblings.now c.in-Some.first.now (tree_of c.in-Some-sibling_at.found.now) c.in-Some-sibling_at.ensures

pub returns-in-None-sibling_at : goal.returns-in-None-sibling_at
returns-in-None-sibling_at t c =
    let f = forest_of c.args.siblings.now in
    let change = content_replaced c.args.position (content_of c.args.content.now.value) in
    let same = ap (λ ps. children_changed change ps f) (c.in-Some.ensures {u = tt}).cases.0
    ∙ below_nowhere (children_changed change c.in-Some.rest.now) f c.in-Some.first.now c.in-None-sibling_at.ensures in
    subst (λ g. IfOk c.shared.result (λ list. forest_of list.items ≡ g)) (sym same) c.shared.ensures

pub returns-in_ok-clone-in-Some-sibling_at : goal.returns-in_ok-clone-in-Some-sibling_at
returns-in_ok-clone-in-Some-sibling_at t c =
    let f = forest_of c.args.siblings.now in
    let p = c.in-Some.first.now in
    let x = c.in-Some-sibling_at.found.now in
    let change = children_changed (content_replaced c.args.position (content_of c.args.content.now.value)) c.in-Some.rest.now in
    let number = ap (λ x. x.number) (sym (view-Node x)) in
    let content = ap content_of c.in_ok-clone-in-Some-sibling_at.ensures.cases ∙ ap (λ x. x.content) (sym (view-Node x)) in
    let children = c.in_ok-children-in-Some-sibling_at.ensures ∙ ap change c.children.ensures.forest in
    let made : tree_of c.node-made.result ≡ with_below (tree_of x) (change (tree_of x).children) =
    c.node-made.ensures ∙ (λ i. record { number = number i; content = content i; children = children i }) in
    let same = ap (λ y. with_tree p y f) made ∙ below_put change f p (tree_of x) c.in-Some-sibling_at.ensures
    ∙ ap (λ ps. children_changed (content_replaced c.args.position (content_of c.args.content.now.value)) ps f) (sym (c.in-Some.ensures {u = tt}).cases.0) in
    subst (λ g. IfOk c.with_node.result (λ list. forest_of list.items ≡ g)) same c.with_node.ensures
