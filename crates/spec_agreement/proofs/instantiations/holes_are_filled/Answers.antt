use Rattle.spec_run.proofs.Fill.{filled_whole}
use Rattle.spec_agreement.proofs.instantiations.holes_are_filled.Goals as goal

pub returns : goal.returns
returns c = filled_whole
