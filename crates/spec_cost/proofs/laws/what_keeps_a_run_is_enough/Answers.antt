use Rattle.spec_cost.proofs.Enough.{enough}
use Rattle.spec_cost.proofs.laws.what_keeps_a_run_is_enough.Goals as goal

pub returns : goal.returns
returns c = λ s t records i j same keeps among ends other. enough s t i j records same ends (keeps.all i among ends) other
