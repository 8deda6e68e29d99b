use Rattle.spec_run.specs.World.{truth_at_places}
use Rattle.spec_order.specs.NodeSet.{IsInOrder, precedes}
use Rattle.spec_order.proofs.Ends.{said, gave}
use Rattle.spec_order.proofs.Meanings.{meaning_ends}
use Rattle.spec_order.proofs.Truths.{at_places}
use Rattle.spec_order.proofs.Firsts.{told}
use Rattle.spec_order.proofs.laws.strings_and_names_are_of_the_first_node.Goals as goal

pub returns : goal.returns
returns c = λ sheet parameters document supply expression context nodes first supplies variables gives is.
    let ask = truth_at_places sheet parameters document in
    let order = gave (IsInOrder precedes)
    (said precedes (IsInOrder precedes) ask supply (at_places sheet parameters document) supplies _
    (meaning_ends expression context variables)) gives in
    told ask supply expression context first nodes order is gives
