use Rattle.spec_reuse.proofs.Served.{served_means}
use Rattle.spec_reuse.proofs.laws.a_record_that_serves_says_what_is_meant.Goals as goal

pub returns : goal.returns
returns c = served_means
