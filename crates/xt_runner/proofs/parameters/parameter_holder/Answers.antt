use Rattle.xt_runner.proofs.Passed.{parameter_held}
use Rattle.xt_runner.proofs.parameters.parameter_holder.Goals as goal

pub returns : goal.returns
returns c v after = parameter_held c.in_ok-name.name c.args.name.now c.args.left.now c.in_ok-shared_past_parameter.field-0 v after c.in_ok-name.ensures c.in_ok-shared_past_parameter.ensures
