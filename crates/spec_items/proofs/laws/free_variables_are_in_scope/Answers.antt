use Rattle.spec_items.proofs.Variables.{free_is_in_scope}
use Rattle.spec_items.proofs.laws.free_variables_are_in_scope.Goals as goal

pub returns : goal.returns
returns c = λ scope content name h. free_is_in_scope scope content name h
