use Rattle.spec_edit.proofs.Numbers.{once-distinct, below-from}
use Rattle.spec_touch.proofs.Moving.{move-makes}
use Rattle.spec_touch.proofs.laws.moves_make_changes.Goals as goal

pub returns : goal.returns
returns c first path other document new e normal distinct low =
    let m = move-makes first document new normal (once-distinct _ distinct) (below-from first _ low) path other e in (m.change, m.told)
