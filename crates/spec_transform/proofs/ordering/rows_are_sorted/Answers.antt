use Rattle.spec_transform.proofs.InOrder.{sorts}
use Rattle.spec_transform.proofs.ordering.rows_are_sorted.Goals as goal

pub returns : goal.returns
returns c = sorts
