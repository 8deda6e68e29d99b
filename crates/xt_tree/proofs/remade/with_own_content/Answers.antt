use Rattle.std.proofs.Common.{◌≡◌, ◌∙◌, sym, ap, subst, IfOk}
use Rattle.xt_tree.specs.Remade.{with_tree}
use Rattle.xt_tree.specs.View.{content_of, forest_of, tree_of}
use Rattle.xt_tree.proofs.Changed.{within_siblings, content_put, content_nowhere, with_own}
use Rattle.xt_tree.proofs.Views.{view-Node}
use Rattle.xt_tree.proofs.remade.with_own_content.Goals as goal

pub with_node-requires : goal.with_node-requires
with_node-requires c = within_siblings c.args.siblings.now c.args.position (tree_of c.in-Some.found.now) c.in-Some.ensures

pub returns-in-None : goal.returns-in-None
returns-in-None c =
    let f = forest_of c.args.siblings.now in
    subst (λ g. IfOk c.shared.result (λ list. forest_of list.items ≡ g))
    (sym (content_nowhere f c.args.position (content_of c.args.content.now.value) c.in-None.ensures)) c.shared.ensures

pub returns-in_ok-clone-in-Some : goal.returns-in_ok-clone-in-Some
returns-in_ok-clone-in-Some c =
    let f = forest_of c.args.siblings.now in
    let p = c.args.position in
    let t = tree_of c.in-Some.found.now in
    let number = ap (λ x. x.number) (sym (view-Node c.in-Some.found.now)) in
    let content = ap content_of c.in_ok-clone-in-Some.ensures.cases in
    let children = c.in_ok-children-in-Some.ensures ∙ c.children.ensures.forest in
    let made : tree_of c.node-made.result ≡ with_own t (content_of c.args.content.now.value) =
    c.node-made.ensures ∙ (λ i. record { number = number i; content = content i; children = children i }) in
    subst (λ g. IfOk c.with_node.result (λ list. forest_of list.items ≡ g))
    (ap (λ x. with_tree p x f) made ∙ content_put f p t (content_of c.args.content.now.value) c.in-Some.ensures) c.with_node.ensures
