use Rattle.std.proofs.Common.{rules, ◌≡◌, ◌+◌, ◌++◌, ◌∙◌, sym, ap, arith, drop, subst}
use Rattle.std.specs.Prelude.{filter, map}
use Rattle.std.proofs.lemmas.List.{at_drop_more}
use Rattle.spec_document.specs.Forest.{labels}
use Rattle.xt_syntax.specs.View.{test_of}
use Rattle.xt_tree.specs.declared.node.Node.{the_lemmas}
use Rattle.xt_tree.specs.View.{forest_of, tree_of, itself}
use Rattle.xp_axes.specs.View.{is_passing, AreNodesOf}
use Rattle.xp_axes.proofs.Inside.{node_at, kept_tree}
use Rattle.xp_axes.proofs.inner.+keep_all.Goals as goal

pub keep-requires : goal.keep-requires
keep-requires t c =
    (node_at c.args.document.now c.args.siblings.now c.loop-sibling.sibling-index c.sibling-item.result c.requires (omega arith) c.sibling-item.is).0

pub keep_all-requires : goal.keep_all-requires
keep_all-requires t c =
    let d = c.args.document.now in
    let item = c.sibling-item.result in
    let inside : forest_of c.children.result.now ≡ (tree_of item.value).children =
    c.children.ensures.forest ∙ ap (λ n. (tree_of n).children) c.deref.ensures in
    let nodes = node_at d c.args.siblings.now c.loop-sibling.sibling-index item c.requires (omega arith) c.sibling-item.is in
    (search (rules, the_lemmas), subst (AreNodesOf d) (sym inside) nodes.1)

pub loop-sibling-preserved : goal.loop-sibling-preserved
loop-sibling-preserved t c =
    let p = is_passing c.args.document.now c.args.axis (test_of c.args.test.now) in
    let found = c.loop-sibling.found.items in
    let item = c.sibling-item.result in
    let at = sym (at_drop_more (λ rest. found ++ filter p (map itself (labels (forest_of rest)))) c.args.siblings.now c.loop-sibling.sibling-index
    item (omega arith)) ∙ c.loop-sibling.invariant in
    let here = rw (← c.sibling-item.is) at at in
    let rest = labels (forest_of (drop (c.loop-sibling.sibling-index + 1) c.args.siblings.now)) in
    let child = tree_of item.value in
    let inside : forest_of c.children.result.now ≡ child.children =
    c.children.ensures.forest ∙ ap (λ n. (tree_of n).children) c.deref.ensures in
    kept_tree p found c.keep.new.found.items c.keep_all.new.found.items (itself child.number) (labels child.children) rest c.in_ok-keep.ensures
    (c.in_ok-keep_all.ensures ∙ ap (λ f. c.keep.new.found.items ++ filter p (map itself (labels f))) inside)
    ∙ here
