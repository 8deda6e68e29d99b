use Rattle.spec_items.proofs.Lifting.{outcome_with_items}
use Rattle.spec_items.proofs.laws.items_change_no_outcome.Goals as goal

pub returns : goal.returns
returns c = λ sheet parameters source. outcome_with_items sheet parameters source
