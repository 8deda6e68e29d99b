use Rattle.spec_move.specs.Move.{moved_nodes}
use Rattle.xt_held.specs.View.{made_of}
use Rattle.xt_held.proofs.Left.{move_is_made, move_keeps_faultless}
use Rattle.xt_held.proofs.Paying.{is_numbered}
use Rattle.xt_held.proofs.held.Held.relocated.Goals as goal

pub returns-in-Some-clause-moved : goal.returns-in-Some-clause-moved
returns-in-Some-clause-moved c =
    let held = c.args.self.now in
    move_is_made (made_of held) c.args.name held c.found.result c.in-Some.document c.found.ensures c.in-Some.is c.args.path.now c.args.other.now
    c.requires.below c.relocate.result c.relocate.ensures.labelled

pub returns-in-Some-clause-faultless : goal.returns-in-Some-clause-faultless
returns-in-Some-clause-faultless c =
    let held = c.args.self.now in
    move_keeps_faultless held c.found.result c.in-Some.document c.in-Some.is c.requires.serves.faultless c.moves_keep_documents_valid.ensures
    c.moves_keep_documents_normal.ensures (made_of held) c.args.name c.found.ensures c.args.path.now c.args.other.now c.requires.below c.relocate.result
    c.relocate.ensures.labelled

pub returns-in-Some-clause-numbers : goal.returns-in-Some-clause-numbers
returns-in-Some-clause-numbers c =
    let held = c.args.self.now in
    is_numbered (made_of held) c.args.name held c.found.result c.in-Some.document c.found.ensures c.in-Some.is
    (moved_nodes (made_of held) c.args.path.now c.args.other.now) c.relocate.result c.relocate.ensures.labelled
