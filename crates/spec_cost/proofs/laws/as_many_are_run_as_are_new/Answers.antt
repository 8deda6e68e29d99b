use Rattle.spec_cost.proofs.Fresh.{as_many_run}
use Rattle.spec_cost.proofs.laws.as_many_are_run_as_are_new.Goals as goal

pub returns : goal.returns
returns c = λ s t before after ran asked new keeps cost apart are. as_many_run s t before after ran asked new keeps cost apart are
