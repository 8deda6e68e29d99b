use Rattle.spec_named.proofs.Results.{results_named}
use Rattle.spec_named.proofs.laws.results_are_named.Goals as goal

pub returns : goal.returns
returns c = results_named c.names_are_declared.ensures
