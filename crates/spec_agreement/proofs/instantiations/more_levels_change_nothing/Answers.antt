use Rattle.spec_run.proofs.More.{more_room}
use Rattle.spec_agreement.proofs.instantiations.more_levels_change_nothing.Goals as goal

pub returns : goal.returns
returns c = more_room
