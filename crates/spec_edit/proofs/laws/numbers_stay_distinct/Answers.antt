use Rattle.spec_edit.proofs.Numbers.{edit_numbers, once-distinct, distinct-once, below-from, below-to}
use Rattle.spec_edit.proofs.laws.numbers_stay_distinct.Goals as goal

pub returns : goal.returns
returns c first edit document new e distinct low =
    let now = edit_numbers first edit document new e (once-distinct _ distinct) (below-from first _ low) in
    (distinct-once _ now.once, below-to _ _ now.below, now.limit)
