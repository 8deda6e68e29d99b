use Rattle.spec_order.proofs.Plans.{plan_of_keeps}
use Rattle.spec_order.proofs.laws.instantiations_keep_order.Goals as goal

pub returns : goal.returns
returns c = λ before same call order. plan_of_keeps before same call order
