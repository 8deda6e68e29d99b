use Rattle.spec_reuse.proofs.Counting.{serves_again_too}
use Rattle.spec_reuse.proofs.laws.a_record_serves_again.Goals as goal

pub returns : goal.returns
returns c = serves_again_too
