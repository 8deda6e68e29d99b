use Rattle.std.proofs.Common.{◌≡◌, ◌+◌, ◌++◌, drop, map, sym, ap, ◌∙◌, arith}
use Rattle.std.proofs.lemmas.List.{at_drop_more}
use Rattle.xt_tree.specs.ByNumber.{trees_in, trees_of}
use Rattle.xt_tree.specs.declared.node.Node.{out-Node}
use Rattle.xt_tree.specs.View.{forest_of, tree_of}
use Rattle.xt_tree.proofs.ByNumber.{next_trees}
use Rattle.xt_tree.proofs.by_number.+push_nodes.Goals as goal

pub loop-sibling-preserved : goal.loop-sibling-preserved
loop-sibling-preserved t c =
    let xs = c.args.siblings.now in
    let list = c.loop-sibling.list.items in
    let n = c.sibling-item.result.value in
    let rest = drop (c.loop-sibling.sibling-index + 1) xs in
    let at = sym (at_drop_more (λ rest. trees_of list ++ trees_in (forest_of rest)) xs c.loop-sibling.sibling-index c.sibling-item.result (omega arith))
    ∙ c.loop-sibling.invariant in
    let here = rw (← c.sibling-item.is) at at in
    let children_is = c.as_slice.ensures.value ∙ ap (λ m. (out-Node m).children.items) c.deref.ensures in
    next_trees n (map (λ x. tree_of x.value) rest) c.in_ok-shared.shared list c.push.new.self.items c.push_nodes.new.list.items c.as_slice.result.now
    c.in_ok-shared.ensures.cases children_is c.in_ok-push.ensures.items c.in_ok-push_nodes.ensures ∙ here
