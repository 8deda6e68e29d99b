use Rattle.std.proofs.Common.{◌≡◌, ◌+◌, ◌-◌, ◌<◌, length, arith, sym, ap, ◌∙◌}
use Rattle.xt_tree.specs.Keys.{key_by}
use Rattle.xt_tree.specs.View.{tree_of}
use Rattle.xt_tree.proofs.Views.{view-Node, key-at}
use Rattle.xt_tree.proofs.find.reached.Goals as goal

pub loop-low-preserved-then-key_of-key : goal.loop-low-preserved-then-key_of-key
loop-low-preserved-then-key_of-key c =
    let key = key_by c.args.keys.now in
    let xs = c.args.siblings.now in
    let m = c.tried-middle.result in
    let within : m < length xs = omega (arith, c.tried-middle.ensures.high, c.loop-low.invariant.within) in
    let at = key-at key xs m c.index-siblings-middle.result within ∙ ap (λ x. key (tree_of x.value).number) (sym c.index-siblings-middle.is)
    ∙ ap (λ t. key t.number) (ap tree_of (sym c.deref.ensures) ∙ view-Node c.deref.result.now) ∙ sym c.key_of.ensures in
    let same : m + 1 - 1 ≡ m = omega arith in
    record {
      bound = omega (arith, c.tried-middle.ensures.high);
      within = c.loop-low.invariant.within;
      before = λ _. rw (same, at) c.if-key_of-key.true;
      behind = c.loop-low.invariant.behind;
    }

pub loop-low-preserved : goal.loop-low-preserved
loop-low-preserved c =
    let key = key_by c.args.keys.now in
    let xs = c.args.siblings.now in
    let m = c.tried-middle.result in
    let within : m < length xs = omega (arith, c.tried-middle.ensures.high, c.loop-low.invariant.within) in
    let at = key-at key xs m c.index-siblings-middle.result within ∙ ap (λ x. key (tree_of x.value).number) (sym c.index-siblings-middle.is)
    ∙ ap (λ t. key t.number) (ap tree_of (sym c.deref.ensures) ∙ view-Node c.deref.result.now) ∙ sym c.key_of.ensures in
    record {
      bound = c.tried-middle.ensures.low;
      within = omega (arith, c.tried-middle.ensures.high, c.loop-low.invariant.within);
      before = c.loop-low.invariant.before;
      behind = λ _. rw at c.if-key_of-key.false;
    }
