use Rattle.spec_order.specs.NodeSet.{IsInOrder}
use Rattle.spec_order.proofs.Ends.{said, gave}
use Rattle.spec_order.proofs.Meanings.{meaning_ends}
use Rattle.spec_order.proofs.laws.node_sets_are_in_order.Goals as goal

pub returns : goal.returns
returns c = λ before ask supply expression context nodes world supplies variables ends.
    gave (IsInOrder before) (said before (IsInOrder before) ask supply world supplies _ (meaning_ends expression context variables)) ends
