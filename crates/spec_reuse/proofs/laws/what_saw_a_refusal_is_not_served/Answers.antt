use Rattle.spec_reuse.proofs.Fronts.{none_serves_refused}
use Rattle.spec_reuse.proofs.laws.what_saw_a_refusal_is_not_served.Goals as goal

pub returns : goal.returns
returns c = none_serves_refused
