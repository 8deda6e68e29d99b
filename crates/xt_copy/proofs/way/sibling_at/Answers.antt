use Rattle.std.proofs.Common.{◌≡◌, ◌+◌, ◌-◌, ◌∙◌, sym, ap, arith, take, drop, Some}
use Rattle.spec_document.specs.Forest.{Node, Empty}
use Rattle.xt_tree.specs.View.{forest_of, tree_of, tree_at}
use Rattle.xt_tree.proofs.Views.{tree_at-zero, tree_at-past, tree_at-index}
use Rattle.xt_copy.proofs.Onward.{one_of}
use Rattle.xt_copy.proofs.way.sibling_at.Goals as goal
use Rattle.xt_copy.proofs.way.sibling_at.Goals.{then-position-eq0-via-then-position-eq0, then-position-eq0-via-else-position-eq0+then-position-siblings}

pub returns-then-position-eq0 : goal.returns-then-position-eq0
returns-then-position-eq0 c =
    elim c.then-position-eq0.branch [
      | then-position-eq0-via-then-position-eq0 w ↦
          ap (tree_at (forest_of c.args.siblings.now)) w.if-position-eq0.true ∙ tree_at-zero (forest_of c.args.siblings.now)
      | then-position-eq0-via-else-position-eq0+then-position-siblings w ↦ tree_at-past c.args.siblings.now c.args.position (omega arith)
    ]

pub returns : goal.returns
returns c =
    let xs = c.args.siblings.now in
    let i = c.args.position - 1 in
    let there = tree_at-index xs c.args.position c.index-siblings-index.result (omega arith) (omega arith) in
    let tree = rw (← c.index-siblings-index.is) at there in
    let slice = one_of xs i c.index-siblings-index.result (omega arith) in
    let alone = rw (← c.index-siblings-index.is) at slice in
    let one : c.args.position - 1 + 1 - (c.args.position - 1) ≡ 1 = omega arith in
    let node = sym c.deref.ensures in (
      tree ∙ ap (λ n. Some (tree_of n)) node,
      ap (λ k. forest_of (take k (drop (c.args.position - 1) xs))) one ∙ alone
          ∙ ap (λ n. Node (tree_of n).number (tree_of n).content (tree_of n).children Empty) node,
    )
