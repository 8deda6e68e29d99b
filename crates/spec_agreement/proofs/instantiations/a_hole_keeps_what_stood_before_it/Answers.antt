use Rattle.spec_run.proofs.Cuts.{cut_there}
use Rattle.spec_agreement.proofs.instantiations.a_hole_keeps_what_stood_before_it.Goals as goal

pub returns : goal.returns
returns c = cut_there
