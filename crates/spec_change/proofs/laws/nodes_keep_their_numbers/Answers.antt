use Rattle.spec_change.proofs.Sparing.{number-stays}
use Rattle.spec_change.proofs.laws.nodes_keep_their_numbers.Goals as goal

pub returns : goal.returns
returns c first edit document new e normal path node at spared stays = number-stays first edit document new e normal path node at spared stays
