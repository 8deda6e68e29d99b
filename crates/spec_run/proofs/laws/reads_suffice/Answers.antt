use Rattle.spec_run.proofs.Trails.{agreement}
use Rattle.spec_run.proofs.laws.reads_suffice.Goals as goal

pub returns : goal.returns
returns c = agreement
