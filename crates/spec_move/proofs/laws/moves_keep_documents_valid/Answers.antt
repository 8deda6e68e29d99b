use Rattle.spec_move.proofs.Faultless.{moved_valid}
use Rattle.spec_move.proofs.laws.moves_keep_documents_valid.Goals as goal

pub returns : goal.returns
returns c = moved_valid
