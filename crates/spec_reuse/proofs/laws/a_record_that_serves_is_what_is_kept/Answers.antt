use Rattle.spec_reuse.proofs.Served.{served_record}
use Rattle.spec_reuse.proofs.laws.a_record_that_serves_is_what_is_kept.Goals as goal

pub returns : goal.returns
returns c = served_record
