use Rattle.spec_edit.proofs.Numbers.{once-distinct, below-from}
use Rattle.spec_touch.proofs.Leading.{edit-leads}
use Rattle.spec_touch.proofs.laws.edits_lead.Goals as goal

pub returns : goal.returns
returns c first edit document new e distinct low =
    let l = edit-leads first edit document new e (once-distinct _ distinct) (below-from first _ low) in (l.change, l.change_is, l.leads)
