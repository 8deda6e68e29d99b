use Rattle.std.proofs.Common.{◌+◌, drop, sym, ap, ◌∙◌, arith}
use Rattle.std.proofs.lemmas.List.{at_drop_more, at_drop_all}
use Rattle.std.proofs.lemmas.Result.{on_ok_weaker}
use Rattle.spec_document.specs.Forest.{Node, Empty, size}
use Rattle.spec_meaning.specs.Stream.{followed}
use Rattle.xt_tree.specs.StreamView.{stream_of}
use Rattle.xt_tree.specs.View.{forest_of, tree_of}
use Rattle.xt_tree.proofs.Streams.{followed-Ended}
use Rattle.xt_copy.specs.Copied.{copied_in}
use Rattle.xt_copy.proofs.Onward.{one_copy, next_copy, within_siblings}
use Rattle.xt_copy.proofs.below.+copies.Goals as goal

pub push_copies-loop-sibling-preserved : goal.push_copies-loop-sibling-preserved
push_copies-loop-sibling-preserved t c =
    let scope = c.args.scope.now in
    let old = stream_of c.loop-sibling.items in
    let at = sym (at_drop_more (λ rest. followed old (copied_in scope (forest_of rest))) c.args.siblings.now c.loop-sibling.sibling-index
    c.sibling-item.result (omega arith)) ∙ c.loop-sibling.invariant in
    let here = rw (← c.sibling-item.is) at at in
    next_copy scope (tree_of c.sibling-item.result.value) (forest_of (drop (c.loop-sibling.sibling-index + 1) c.args.siblings.now)) old _
    (c.in_ok-push_copy.ensures
    ∙ ap (λ n. followed old (copied_in scope (Node (tree_of n).number (tree_of n).content (tree_of n).children Empty))) c.deref.ensures) ∙ here

pub push_copies-returns : goal.push_copies-returns
push_copies-returns t c =
    let scope = c.args.scope.now in
    let done = stream_of c.loop-sibling.items in
    sym (followed-Ended done)
    ∙ (sym (at_drop_all (λ rest. followed done (copied_in scope (forest_of rest))) c.args.siblings.now c.loop-sibling.sibling-index (omega arith))
    ∙ c.loop-sibling.invariant)

pub push_copy-returns : goal.push_copy-returns
push_copy-returns t c =
    let copy = one_copy c.args.scope.now _ (tree_of c.args.node.now) _ _ _ _ _ c.content-content.ensures c.children.ensures.forest c.in_ok-inner.ensures
    c.in_ok-inside.ensures c.in_ok-push_copies.ensures c.in_ok-copy.ensures in
    on_ok_weaker c.push.result (λ e. e ∙ ap (followed (stream_of c.args.items.now)) copy) c.push.ensures.ok

pub push_copies-push_copy-requires : goal.push_copies-push_copy-requires
push_copies-push_copy-requires t c =
    let less = within_siblings c.args.siblings.now c.loop-sibling.sibling-index c.sibling-item.result (omega arith) in
    let here = rw (← c.sibling-item.is) at less in
    let same = ap (λ n. size (tree_of n).children) c.deref.ensures in
    (omega (arith, here, same, c.decreases), tt)

pub push_copy-push_copies-requires : goal.push_copy-push_copies-requires
push_copy-push_copies-requires t c = let same = ap size c.children.ensures.forest in (omega (arith, same, c.decreases), tt)
