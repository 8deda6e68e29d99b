use Rattle.spec_reuse.proofs.Comes.{run_comes}
use Rattle.spec_reuse.proofs.laws.kept_runs_come_to_what_is_meant.Goals as goal

pub returns : goal.returns
returns c = run_comes
