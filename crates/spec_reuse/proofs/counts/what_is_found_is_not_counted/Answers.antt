use Rattle.spec_reuse.proofs.Counting.{more_gone_over, nothing_entered}
use Rattle.spec_reuse.proofs.counts.what_is_found_is_not_counted.Goals as goal

pub returns-clause-among : goal.returns-clause-among
returns-clause-among c = more_gone_over

pub returns-clause-all : goal.returns-clause-all
returns-clause-all c = nothing_entered
