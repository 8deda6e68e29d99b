use Rattle.spec_document.proofs.Reading.{one_forest}
use Rattle.spec_document.proofs.laws.events_have_one_forest.Goals as goal

pub returns : goal.returns
returns c = one_forest
