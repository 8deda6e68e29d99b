use Rattle.std.proofs.Common.{sym, ◌∙◌}
use Rattle.xt_tree.specs.View.{forest_of}
use Rattle.xt_tree.specs.Keys.{key_by}
use Rattle.xt_tree.proofs.Site.{no_tree, step_here, step_on, step_rises, step_smaller}
use Rattle.xt_tree.proofs.find.find.Goals as goal

pub returns-in_default : goal.returns-in_default
returns-in_default c = sym (no_tree c.args.id.number (forest_of c.down.current.now) c.in_default.ensures) ∙ c.down.invariant.tree

pub returns-then-eq : goal.returns-then-eq
returns-then-eq c =
    sym (step_here (key_by c.args.keys.now) c.args.id.number c.down.current.now c.in-Some.node.now _ c.in-Some.ensures
    (sym c.eq.ensures ∙ c.if-eq.true)) ∙ c.down.invariant.tree

pub down-smaller : goal.down-smaller
down-smaller c =
    step_smaller (key_by c.args.keys.now) c.args.id.number c.down.current.now c.as_slice-current.result.now c.in-Some.node.now _ c.in-Some.ensures
    c.as_slice-current.ensures.value

pub down-preserved : goal.down-preserved
down-preserved c =
    let key = key_by c.args.keys.now in
    let n = c.args.id.number in
    let s = c.in-Some.ensures in
    let is = c.as_slice-current.ensures.value in
    let other = sym c.eq.ensures ∙ c.if-eq.false in
    record {
      tree = sym (step_on key n c.down.current.now c.as_slice-current.result.now c.in-Some.node.now _ s other is) ∙ c.down.invariant.tree;
      rises = step_rises key n c.down.current.now c.as_slice-current.result.now c.in-Some.node.now _ s is;
    }
