use Rattle.spec_transform.proofs.InOrder.{one_order}
use Rattle.spec_transform.proofs.ordering.sorted_rows_are_one.Goals as goal

pub returns : goal.returns
returns c = one_order
