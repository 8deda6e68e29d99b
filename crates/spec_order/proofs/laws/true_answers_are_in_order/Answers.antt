use Rattle.spec_order.proofs.Truths.{at_places}
use Rattle.spec_order.proofs.laws.true_answers_are_in_order.Goals as goal

pub returns : goal.returns
returns c = λ sheet parameters document. at_places sheet parameters document
