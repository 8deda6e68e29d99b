use Rattle.spec_move.proofs.Depths.{move_shallow}
use Rattle.spec_move.proofs.laws.moves_keep_documents_shallow.Goals as goal

pub returns : goal.returns
returns c first path other document new e levels elements =
    let now = move_shallow first path other document new e (record { levels = levels; elements = elements }) in (now.levels, now.elements)
