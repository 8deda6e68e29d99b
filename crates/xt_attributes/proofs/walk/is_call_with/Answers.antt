use Rattle.std.proofs.Common.{◌∙◌, ap}
use Rattle.xt_attributes.specs.Sought.{sought_in}
use Rattle.xt_attributes.proofs.Counts.{count_is}
use Rattle.xt_attributes.proofs.walk.is_call_with.Goals as goal

pub returns : goal.returns
returns c = c.is_call.ensures ∙ ap ((sought_in c.args.sought).call c.args.name.now) (count_is c.args.arguments.now)
