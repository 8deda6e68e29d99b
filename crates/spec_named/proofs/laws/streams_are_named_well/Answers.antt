use Rattle.spec_named.proofs.Results.{streams_well}
use Rattle.spec_named.proofs.laws.streams_are_named_well.Goals as goal

pub returns : goal.returns
returns c = streams_well
