use Rattle.spec_run.proofs.Fill.{filled_whole}
use Rattle.spec_run.proofs.laws.holes_are_filled.Goals as goal

pub returns : goal.returns
returns c = filled_whole
