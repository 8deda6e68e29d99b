use Rattle.xt_edit.proofs.Stays.{move_stays, move_stays-below}
use Rattle.xt_edit.proofs.relocation.relocate.Goals as goal

pub parted-requires-clause-permits : goal.parted-requires-clause-permits
parted-requires-clause-permits c =
    move_stays c.args.first.number c.args.path.now c.args.other.now c.args.document.now c.requires c.stand.ensures

pub returns-clause-below : goal.returns-clause-below
returns-clause-below c =
    move_stays-below c.args.first.number c.args.path.now c.args.other.now c.args.document.now c.parted.result c.requires c.parted.ensures
