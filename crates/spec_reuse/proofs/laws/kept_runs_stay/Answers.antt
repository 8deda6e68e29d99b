use Rattle.spec_reuse.proofs.Stays.{run_stays}
use Rattle.spec_reuse.proofs.laws.kept_runs_stay.Goals as goal

pub returns : goal.returns
returns c = run_stays
