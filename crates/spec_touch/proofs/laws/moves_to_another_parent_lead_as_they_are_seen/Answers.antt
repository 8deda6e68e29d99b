use Rattle.spec_edit.proofs.Numbers.{once-distinct, below-from}
use Rattle.spec_touch.proofs.Moving.{move-leads}
use Rattle.spec_touch.proofs.laws.moves_to_another_parent_lead_as_they_are_seen.Goals as goal

pub returns : goal.returns
returns c rules first path other document new e normal distinct low from to is_from is_to apart =
    let m = move-leads first document new normal (once-distinct _ distinct) (below-from first _ low) path other e from to is_from is_to apart in
    (m.left, m.entered, m.told, m.leaves_seen rules, m.enters_seen rules)
