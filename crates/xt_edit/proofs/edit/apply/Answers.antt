use Rattle.xt_edit.specs.View.{edit_of}
use Rattle.xt_edit.proofs.Plainly.{plainly}
use Rattle.xt_edit.proofs.edit.apply.Goals as goal

pub returns-clause-plain : goal.returns-clause-plain
returns-clause-plain c =
    plainly c.args.document.now c.args.first.number _ _ _ (c.labels_do_not_matter.ensures c.args.first.number (edit_of c.args.edit.now) c.args.document.now)
    c.parted.ensures.labelled
