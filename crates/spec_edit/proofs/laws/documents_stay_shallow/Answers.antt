use Rattle.spec_edit.proofs.Depths.{edit_shallow}
use Rattle.spec_edit.proofs.laws.documents_stay_shallow.Goals as goal

pub returns : goal.returns
returns c first edit document new e levels elements =
    let now = edit_shallow first edit document new e (record { levels = levels; elements = elements }) in (now.levels, now.elements)
