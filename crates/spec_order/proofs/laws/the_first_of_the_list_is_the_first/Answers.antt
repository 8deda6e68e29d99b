use Rattle.spec_order.specs.NodeSet.{precedes}
use Rattle.spec_order.proofs.Firsts as firsts
use Rattle.spec_order.proofs.laws.the_first_of_the_list_is_the_first.Goals as goal

pub returns-clause-is_first : goal.returns-clause-is_first
returns-clause-is_first c = λ node nodes order. firsts.is_first precedes node nodes order

pub returns-clause-alone : goal.returns-clause-alone
returns-clause-alone c = λ first node nodes order is. firsts.alone first node nodes order is
