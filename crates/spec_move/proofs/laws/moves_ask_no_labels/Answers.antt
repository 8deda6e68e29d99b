use Rattle.std.proofs.Common.{sym}
use Rattle.spec_move.proofs.Plainly.{plain_move}
use Rattle.spec_move.proofs.laws.moves_ask_no_labels.Goals as goal

pub returns : goal.returns
returns c first path other document = sym (plain_move first path other document)
