use Rattle.std.proofs.Common.{◌∙◌, sym, ap, arith, Some}
use Rattle.xt_tree.specs.View.{forest_of, tree_of, tree_at}
use Rattle.xt_tree.proofs.Views.{tree_at-zero, tree_at-past, tree_at-index}
use Rattle.xt_edit.proofs.change.child_at.Goals as goal
use Rattle.xt_edit.proofs.change.child_at.Goals.{then-position-eq0-via-then-position-eq0, then-position-eq0-via-else-position-eq0+then-position-siblings}

pub returns-then-position-eq0 : goal.returns-then-position-eq0
returns-then-position-eq0 c =
    elim c.then-position-eq0.branch [
      | then-position-eq0-via-then-position-eq0 w ↦ sym
          (ap (tree_at (forest_of c.args.siblings.now)) w.if-position-eq0.true ∙ tree_at-zero (forest_of c.args.siblings.now))
      | then-position-eq0-via-else-position-eq0+then-position-siblings w ↦ sym (tree_at-past c.args.siblings.now c.args.position (omega arith))
    ]

pub returns : goal.returns
returns c =
    let at = tree_at-index c.args.siblings.now c.args.position c.index-siblings-position.result (omega arith) (omega arith) in
    let here = rw (← c.index-siblings-position.is) at at in
    ap (λ n. Some (tree_of n)) c.deref.ensures ∙ sym here
