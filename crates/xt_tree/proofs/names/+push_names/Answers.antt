use Rattle.std.proofs.Common.{◌≡◌, ◌+◌, ◌++◌, Some, drop, map, sym, ap, ◌∙◌, arith}
use Rattle.std.proofs.lemmas.List.{at_drop_more}
use Rattle.spec_document.specs.Declaration.{within}
use Rattle.xt_tree.specs.declared.node.Node.{Node, out-Node}
use Rattle.xt_tree.specs.Kept.{called_by, names_in}
use Rattle.xt_tree.specs.View.{content_of, forest_of, tree_of}
use Rattle.xt_tree.proofs.Named.{next_names}
use Rattle.xt_tree.proofs.Views.{view-Node}
use Rattle.xt_tree.proofs.names.+push_names.Goals as goal

pub loop-sibling-preserved : goal.loop-sibling-preserved
loop-sibling-preserved t c =
    let scope = c.args.scope.now in
    let xs = c.args.siblings.now in
    let list = c.loop-sibling.list.items in
    let n = c.sibling-item.result.value in
    let rest = drop (c.loop-sibling.sibling-index + 1) xs in
    let at = sym (at_drop_more (λ rest. list ++ names_in scope (forest_of rest)) xs c.loop-sibling.sibling-index c.sibling-item.result (omega arith))
    ∙ c.loop-sibling.invariant in
    let here = rw (← c.sibling-item.is) at at in
    let own : (m : Node) → m ≡ n → (tree_of m).content ≡ content_of (out-Node n).content.value =
    λ m e. ap (λ m. (tree_of m).content) e ∙ ap (λ t. t.content) (view-Node n) in
    let inner_is : c.enter.new.scope ≡ within (content_of (out-Node n).content.value) scope =
    c.in_ok-enter.ensures ∙ ap (λ x. within x c.in_ok-inner.inner) (c.content.ensures ∙ own _ c.deref.ensures)
    ∙ ap (within (content_of (out-Node n).content.value)) c.in_ok-inner.ensures in
    let name_is : c.in_ok-called.called ≡ called_by (Some (content_of (out-Node n).content.value)) c.enter.new.scope =
    c.in_ok-called.ensures ∙ ap (λ x. called_by (Some x) c.enter.new.scope) (c.content-in-loop-sibling.ensures ∙ own _ c.deref-in-loop-sibling.ensures) in
    let children_is = c.as_slice.ensures.value ∙ ap (λ m. (out-Node m).children.items) c.deref-in-loop-sibling-2.ensures in
    next_names scope c.enter.new.scope n (map (λ x. tree_of x.value) rest) list c.push.new.self.items c.push_names.new.list.items c.in_ok-called.called
    c.as_slice.result.now inner_is name_is children_is c.in_ok-push.ensures.items c.in_ok-push_names.ensures ∙ here
