use Rattle.std.proofs.Common.{◌≡◌, ℕ, map, subst, arith}
use Rattle.spec_document.specs.Forest as forest
use Rattle.spec_document.specs.Forest.{Forest}
use Rattle.spec_seen.specs.Seen as spec
use Rattle.xt_syntax.specs.SheetView.{space_rule_of}
use Rattle.xt_tree.specs.View.{tree_of}
use Rattle.xt_tree.specs.declared.node.Node.{Node}
use Rattle.xt_strip.specs.View.{around_of, before}
use Rattle.xt_strip.proofs.Siblings.{at_end, turn}
use Rattle.xt_strip.proofs.walk.+seen_among.Goals as goal

pub seen_among-loop-i-preserved : goal.seen_among-loop-i-preserved
seen_among-loop-i-preserved t c =
    let rules = map space_rule_of c.args.rules.now in
    let around = around_of c.args.around.now in
    let Said : Node → Type 0 = λ n. (behind : Forest ℕ) → before c.in_ok-sight.sight (tree_of n) (spec.seen_among rules around behind)
    ≡ spec.seen_among rules around (forest.Node (tree_of n).number (tree_of n).content (tree_of n).children behind) in
    turn rules around c.args.siblings.now c.loop-i.i c.index-siblings-i.result c.in_ok-sight.sight c.loop-i.seen c.in_ok-seen.seen _
    (omega arith) c.index-siblings-i.is (subst Said c.deref.ensures c.in_ok-sight.ensures) c.in_ok-seen.ensures c.loop-i.invariant

pub seen_among-returns : goal.seen_among-returns
seen_among-returns t c =
    at_end (map space_rule_of c.args.rules.now) (around_of c.args.around.now) c.args.siblings.now c.loop-i.i c.loop-i.seen _ c.loop-i-test.false
    c.loop-i.invariant
