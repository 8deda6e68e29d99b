use Rattle.spec_edit.proofs.Numbers.{once-distinct, below-from}
use Rattle.spec_touch.proofs.SeenLeading.{edit-leads-seen}
use Rattle.spec_touch.proofs.laws.edits_lead_as_they_are_seen.Goals as goal

pub returns : goal.returns
returns c rules first edit document new e normal distinct low keeps =
    let l = edit-leads-seen rules first edit document new normal (once-distinct _ distinct) (below-from first _ low) e keeps in
    (l.change, l.change_is, l.leads)
