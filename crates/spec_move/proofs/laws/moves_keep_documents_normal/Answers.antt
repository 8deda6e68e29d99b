use Rattle.spec_move.proofs.Normal.{moved_normal}
use Rattle.spec_move.proofs.laws.moves_keep_documents_normal.Goals as goal

pub returns : goal.returns
returns c = moved_normal
