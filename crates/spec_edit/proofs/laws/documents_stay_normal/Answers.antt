use Rattle.spec_edit.proofs.Normal.{edit_normal}
use Rattle.spec_edit.proofs.laws.documents_stay_normal.Goals as goal

pub returns : goal.returns
returns c = edit_normal
