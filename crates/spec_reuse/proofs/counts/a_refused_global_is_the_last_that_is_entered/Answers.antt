use Rattle.spec_reuse.proofs.Counting.{lost_ends}
use Rattle.spec_reuse.proofs.counts.a_refused_global_is_the_last_that_is_entered.Goals as goal

pub returns : goal.returns
returns c = lost_ends
