use Rattle.spec_reuse.proofs.Again.{serves_again}
use Rattle.spec_reuse.proofs.laws.what_came_to_its_end_serves_again.Goals as goal

pub returns : goal.returns
returns c = serves_again
