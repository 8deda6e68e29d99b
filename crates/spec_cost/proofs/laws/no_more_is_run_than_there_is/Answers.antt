use Rattle.spec_cost.proofs.Some.{no_more_is_run}
use Rattle.spec_cost.proofs.laws.no_more_is_run_than_there_is.Goals as goal

pub returns : goal.returns
returns c = λ s before after ran asked cost. no_more_is_run s before after ran asked cost
