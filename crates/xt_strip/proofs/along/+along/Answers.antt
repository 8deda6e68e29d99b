use Rattle.std.proofs.Common.{◌≡◌, ℕ, ◌-◌, ◌+◌, Option, Some, map, sym, ap, ◌∙◌, subst, arith}
use Rattle.std.specs.Prelude.{IfSome}
use Rattle.spec_document.specs.Forest as forest
use Rattle.spec_document.specs.Forest.{Forest, followed}
use Rattle.spec_edit.specs.Splice.{children_changed}
use Rattle.spec_seen.specs.Seen as spec
use Rattle.xt_syntax.specs.SheetView.{space_rule_of}
use Rattle.xt_tree.specs.View.{forest_of, tree_of}
use Rattle.xt_tree.specs.declared.node.Node.{Node}
use Rattle.xt_strip.specs.Along.{shown_count}
use Rattle.xt_strip.specs.View.{around_of, changed}
use Rattle.xt_strip.proofs.Sharing.{step}
use Rattle.xt_strip.proofs.along.+along.Goals as goal

pub along-returns-in_ok-nodes-in-Some-2 : goal.along-returns-in_ok-nodes-in-Some-2
along-returns-in_ok-nodes-in-Some-2 t c shown =
    let rules = map space_rule_of c.args.rules.now in
    let around = around_of c.args.around.now in
    let f = forest_of c.args.before.now in
    let s = forest_of c.args.seen.now in
    let change = changed c.args.change.now in
    let inner = children_changed change c.in-Some.way.now in
    let position = c.in-Some.position.now in
    let index = position - 1 in
    let count = c.count_shown-count.result in
    let node = c.in-Some-split_first.node.now.value in
    let own = c.in-Some-split_first-2.own.now.value in
    let rest = forest_of c.in-Some-split_first.field-0-1.now in
    let behind = forest_of c.in-Some-split_first-2.behind.now in
    let children = c.in-Some-2.children in
    let Said : Node → Node → Option (Forest ℕ) → Type 0 = λ n o found. (rest behind : Forest ℕ)
    → forest.Node (tree_of o).number (tree_of o).content (tree_of o).children behind
    ≡ spec.seen_among rules around (forest.Node (tree_of n).number (tree_of n).content (tree_of n).children rest)
    → IfSome found (λ below. forest.Node (tree_of o).number (tree_of o).content below behind
    ≡ spec.seen_among rules around (forest.Node (tree_of n).number (tree_of n).content (inner (tree_of n).children) rest)) in
    let said : Said node own (Some children) =
    subst (λ n. Said n own (Some children)) c.deref.ensures (subst (λ o. Said c.deref.result.now o (Some children)) c.deref-2.ensures
    (subst (λ o. Said c.deref.result.now c.deref-2.result.now o) c.in-Some-2.is c.in_ok-below.ensures)) in
    let is : position ≡ index + 1 = omega (arith, c.if-position-eq0.false) in
    step rules around inner index position count f s (tree_of node).number (tree_of node).content (tree_of node).children rest
    (tree_of own).number (tree_of own).content (tree_of own).children behind children c.in_ok-nodes-in-Some-2.nodes
    is (sym c.later.ensures ∙ ap forest_of c.in-Some-split_first.ensures.cases.0)
    (c.count_shown-count.ensures ∙ ap (shown_count around) c.first.ensures) shown
    (sym c.later-2.ensures ∙ ap forest_of c.in-Some-split_first-2.ensures.cases.0) (said rest behind)
    (c.in_ok-nodes-in-Some-2.ensures
    ∙ ap (λ x. followed x (forest.Node (tree_of own).number (tree_of own).content children behind)) c.first-in-Some-2.ensures)
    ∙ ap (λ ps. spec.seen_among rules around (children_changed change ps f)) (sym c.in-Some.ensures.cases.0)
