use Rattle.xt_tree.specs.ValueView.{value_of}
use Rattle.xt_runner.proofs.Passed.{held_does}
use Rattle.xt_runner.proofs.parameters.hold_value.Goals as goal

pub returns : goal.returns
returns c ask = held_does ask c.in_ok-frame.frame c.args.holder (value_of c.args.value) c.args.run.now c.push.new.run c.in_ok-frame.ensures c.in_ok-push.ensures
