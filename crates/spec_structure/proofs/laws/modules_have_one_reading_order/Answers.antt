use Rattle.spec_structure.proofs.OneOrder.{one_order}
use Rattle.spec_structure.proofs.laws.modules_have_one_reading_order.Goals as goal

pub returns : goal.returns
returns c modules main names others = one_order
