use Rattle.std.proofs.Common.{◌≡◌, ◌+◌, ◌-◌, map, sym, ap, ◌∙◌, arith}
use Rattle.spec_document.specs.Forest as forest
use Rattle.spec_document.specs.Forest.{followed}
use Rattle.xt_syntax.specs.SheetView.{space_rule_of}
use Rattle.xt_tree.specs.View.{forest_of, tree_of}
use Rattle.xt_strip.specs.Along.{shown_count}
use Rattle.xt_strip.specs.View.{around_of}
use Rattle.xt_strip.proofs.Staying.{seen_stays}
use Rattle.xt_strip.proofs.along.with_content.Goals as goal

pub returns : goal.returns
returns c shown =
    let around = around_of c.args.around.now in
    let position = c.args.position in
    let index = position - 1 in
    let count = c.count_shown-count.result in
    let node = tree_of c.in-Some.node.now.value in
    let own = tree_of c.in-Some-split_first.own.now.value in
    let other = tree_of c.args.other.now.value in
    let behind = forest_of c.in-Some-split_first.behind.now in
    let first : position ≡ index + 1 = omega (arith, c.if-position-eq0.false) in
    let number = sym (c.has_same_number.ensures.0 c.if-not-has_same_number.false) in
    let made = c.in_ok-nodes.ensures
    ∙ (λ i. followed (c.first-2.ensures i) (forest.Node (number i) other.content (c.in_ok-children.ensures i) behind)) in
    seen_stays (map space_rule_of c.args.rules.now) around index position count (forest_of c.args.before.now) (forest_of c.args.seen.now)
    node.number node.content node.children (forest_of c.in-Some.field-0-1.now) own.number own.content own.children behind c.in_ok-nodes.nodes other.content
    first (sym c.later.ensures ∙ ap forest_of c.in-Some.ensures.cases.0) (c.count_shown-count.ensures ∙ ap (shown_count around) c.first.ensures) shown
    (sym c.later-2.ensures ∙ ap forest_of c.in-Some-split_first.ensures.cases.0) (c.in_ok-is_same.ensures c.if-not-is_same.false) made
