use Rattle.spec_edit.proofs.Faultless.{edit_valid}
use Rattle.spec_edit.proofs.laws.documents_stay_valid.Goals as goal

pub returns : goal.returns
returns c = edit_valid
