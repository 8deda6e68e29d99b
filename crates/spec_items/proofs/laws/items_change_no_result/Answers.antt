use Rattle.spec_items.proofs.Lifting.{run_with_items}
use Rattle.spec_items.proofs.laws.items_change_no_result.Goals as goal

pub returns : goal.returns
returns c = λ sheet parameters document. run_with_items sheet parameters document
