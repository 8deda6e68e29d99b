use Rattle.spec_edit.proofs.Numbers.{once-distinct, distinct-once, below-from, below-to}
use Rattle.spec_move.proofs.Numbers.{move_numbers}
use Rattle.spec_move.proofs.laws.moves_keep_numbers_distinct.Goals as goal

pub returns : goal.returns
returns c first path other document new e distinct low =
    let now = move_numbers first path other document new e (once-distinct _ distinct) (below-from first _ low) in
    (distinct-once _ now.once, below-to _ _ now.below, now.limit)
