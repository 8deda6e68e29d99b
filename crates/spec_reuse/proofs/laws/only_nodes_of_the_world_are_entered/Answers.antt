use Rattle.std.proofs.Common.{◌≡◌, true}
use Rattle.spec_reuse.proofs.Alike.{run_enters_only}
use Rattle.spec_reuse.proofs.laws.only_nodes_of_the_world_are_entered.Goals as goal

pub returns : goal.returns
returns c = λ is_there s i names there. run_enters_only (λ n. is_there n ≡ true) s names i there
