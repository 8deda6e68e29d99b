use Rattle.spec_reuse.proofs.Entering.{runs_are_entered}
use Rattle.spec_reuse.proofs.laws.kept_runs_are_what_is_entered.Goals as goal

pub returns : goal.returns
returns c = runs_are_entered
