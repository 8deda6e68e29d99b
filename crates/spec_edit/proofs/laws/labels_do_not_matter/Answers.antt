use Rattle.std.proofs.Common.{sym}
use Rattle.spec_edit.proofs.Labels.{plain_edit}
use Rattle.spec_edit.proofs.laws.labels_do_not_matter.Goals as goal

pub returns : goal.returns
returns c first edit document = sym (plain_edit first edit document)
