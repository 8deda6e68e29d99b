use Rattle.spec_cost.proofs.Again.{none_again}
use Rattle.spec_cost.proofs.laws.what_is_kept_is_not_run_again.Goals as goal

pub returns : goal.returns
returns c = λ s before after ran asked keeps ends cost. none_again s before after ran asked keeps ends cost
