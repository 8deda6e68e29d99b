use Rattle.spec_transform.proofs.Greatest.{greatest_is_chosen, none_is_chosen}
use Rattle.spec_transform.proofs.choosing.the_first_is_the_greatest.Goals as goal

pub returns-clause-one : goal.returns-clause-one
returns-clause-one c = greatest_is_chosen

pub returns-clause-none : goal.returns-clause-none
returns-clause-none c = none_is_chosen
