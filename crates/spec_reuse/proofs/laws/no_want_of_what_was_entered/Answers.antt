use Rattle.spec_reuse.proofs.Told.{some_are_entered}
use Rattle.spec_reuse.proofs.laws.no_want_of_what_was_entered.Goals as goal

pub returns : goal.returns
returns c = some_are_entered
