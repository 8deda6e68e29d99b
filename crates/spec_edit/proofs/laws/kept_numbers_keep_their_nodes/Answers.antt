use Rattle.spec_edit.proofs.Numbers.{once-distinct, below-from}
use Rattle.spec_edit.proofs.Keeping.{keeps}
use Rattle.spec_edit.proofs.laws.kept_numbers_keep_their_nodes.Goals as goal

pub returns : goal.returns
returns c first edit document new e distinct low = keeps first edit document new e (once-distinct _ distinct) (below-from first _ low)
