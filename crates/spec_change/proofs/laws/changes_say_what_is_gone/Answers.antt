use Rattle.spec_change.proofs.Gone.{told, says}
use Rattle.spec_edit.proofs.Numbers.{once-distinct, below-from}
use Rattle.spec_change.proofs.laws.changes_say_what_is_gone.Goals as goal

pub returns : goal.returns
returns c first edit document new e distinct low =
    let once = once-distinct _ distinct in
    let below = below-from first _ low in
    let t = told first edit document new e once below in
    (_, t.change_is, says first edit document new e once below t)
