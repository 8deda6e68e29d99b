use Rattle.spec_cost.proofs.Fresh.{new_is_run}
use Rattle.spec_cost.proofs.laws.what_is_new_is_run.Goals as goal

pub returns : goal.returns
returns c = λ s t before after ran asked i keeps cost among new. new_is_run s t before after ran asked i keeps cost among new
