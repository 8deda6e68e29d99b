use Rattle.spec_document.proofs.Reading.{computed_is_forest, forest_is_computed}
use Rattle.spec_document.proofs.laws.forests_are_computed.Goals as goal

pub returns : goal.returns
returns c events f = (computed_is_forest events f, forest_is_computed events f)
