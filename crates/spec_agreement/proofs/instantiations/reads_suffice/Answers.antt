use Rattle.spec_run.proofs.Trails.{agreement}
use Rattle.spec_agreement.proofs.instantiations.reads_suffice.Goals as goal

pub returns : goal.returns
returns c = agreement
