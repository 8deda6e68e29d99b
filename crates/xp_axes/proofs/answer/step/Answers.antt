use Rattle.std.proofs.Common.{◌∙◌, ap}
use Rattle.spec_document.specs.Axis.{in_axis_order}
use Rattle.xt_syntax.specs.View.{test_of}
use Rattle.xp_axes.proofs.Reached.{step_is}
use Rattle.xp_axes.proofs.answer.step.Goals as goal

pub returns : goal.returns
returns c =
    c.in_axis_order.ensures ∙ ap (in_axis_order c.args.axis) c.in_ok-kept.ensures
    ∙ step_is c.args.document.now c.distinct_numbers.ensures c.args.axis (test_of c.args.test.now) c.args.node.now
