use Rattle.std.proofs.Common.{refl}
use Rattle.xt_number_format.proofs.Written.{next_written, others_end}
use Rattle.xt_number_format.proofs.writing.push_others.Goals as goal

pub loop-place-init : goal.loop-place-init
loop-place-init c = refl

pub loop-place-preserved : goal.loop-place-preserved
loop-place-preserved c =
    next_written c.args.grouping.now c.args.format.now c.args.others.now c.loop-place.place c.index-others-place.result c.loop-place.text
    c.push_str.new.self c.push_number.new.text _ _ _ (c.loop-place-test.true, c.index-others-place.is) c.part_at.ensures.before
    c.part_at.ensures.token c.in_ok-push_str.ensures.ok c.in_ok-push_number.ensures c.loop-place.invariant

pub returns : goal.returns
returns c =
    others_end c.args.grouping.now c.args.format.now c.args.others.now c.loop-place.place c.loop-place.text _ c.loop-place-test.false
    c.loop-place.invariant
