use Rattle.spec_edit.proofs.Numbers.{once-distinct, below-from}
use Rattle.spec_move.proofs.Keeping.{moved_keeps}
use Rattle.spec_move.proofs.laws.moved_numbers_keep_their_nodes.Goals as goal

pub returns : goal.returns
returns c first path other document new e normal distinct low =
    moved_keeps first path other document new e normal (once-distinct _ distinct) (below-from first _ low)
