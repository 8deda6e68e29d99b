use Rattle.spec_run.specs.World.{setting_of}
use Rattle.spec_order.specs.NodeSet.{precedes}
use Rattle.spec_order.proofs.Truths.{at_places}
use Rattle.spec_order.proofs.Runs.{globals_in_order}
use Rattle.spec_order.proofs.laws.globals_are_in_order.Goals as goal

pub returns : goal.returns
returns c = λ sheet parameters document levels room past name depth place there.
    globals_in_order precedes (setting_of sheet parameters document) (at_places sheet parameters document) levels room past there name depth place
