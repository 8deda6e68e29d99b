use Rattle.spec_edit.specs.Edit as spec
use Rattle.xt_edit.specs.View.{edit_of}
use Rattle.xt_held.specs.View.{made_of}
use Rattle.xt_held.proofs.Left.{edit_is_made, edit_keeps_faultless}
use Rattle.xt_held.proofs.Paying.{is_numbered}
use Rattle.xt_held.proofs.held.Held.edited.Goals as goal

pub returns-in-Some-clause-edit : goal.returns-in-Some-clause-edit
returns-in-Some-clause-edit c =
    let held = c.args.self.now in
    edit_is_made (made_of held) c.args.name held c.found.result c.in-Some.document c.found.ensures c.in-Some.is c.args.edit.now c.requires.below c.apply.result
    c.apply.ensures.labelled

pub returns-in-Some-clause-faultless : goal.returns-in-Some-clause-faultless
returns-in-Some-clause-faultless c =
    let held = c.args.self.now in
    edit_keeps_faultless held c.found.result c.in-Some.document c.in-Some.is c.requires.serves.faultless c.documents_stay_valid.ensures
    c.documents_stay_normal.ensures (made_of held) c.args.name c.found.ensures c.args.edit.now c.requires.below c.apply.result c.apply.ensures.labelled

pub returns-in-Some-clause-numbers : goal.returns-in-Some-clause-numbers
returns-in-Some-clause-numbers c =
    let held = c.args.self.now in
    is_numbered (made_of held) c.args.name held c.found.result c.in-Some.document c.found.ensures c.in-Some.is
    (spec.edited_nodes (made_of held) (edit_of c.args.edit.now)) c.apply.result c.apply.ensures.labelled
