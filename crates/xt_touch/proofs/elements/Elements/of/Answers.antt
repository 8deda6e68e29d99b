use Rattle.std.proofs.Common.{arith}
use Rattle.xt_touch.proofs.Among.{added_turn, all_added}
use Rattle.xt_touch.proofs.elements.Elements.of.Goals as goal

pub loop-element-preserved : goal.loop-element-preserved
loop-element-preserved c =
    added_turn c.args.elements.now c.loop-element.element-index _ c.loop-element.set _ _ (omega arith) c.in_ok-add.ensures c.loop-element.invariant

pub returns : goal.returns
returns c = all_added c.args.elements.now c.loop-element.element-index _ _ (omega arith) c.loop-element.invariant
