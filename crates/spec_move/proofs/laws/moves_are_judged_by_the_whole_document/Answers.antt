use Rattle.spec_move.proofs.Judging.{move_judged}
use Rattle.spec_move.proofs.laws.moves_are_judged_by_the_whole_document.Goals as goal

pub returns : goal.returns
returns c = move_judged
