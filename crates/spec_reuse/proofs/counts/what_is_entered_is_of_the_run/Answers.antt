use Rattle.spec_reuse.proofs.Within.{nested_of_run}
use Rattle.spec_reuse.proofs.Counting.{front_of_run}
use Rattle.spec_reuse.proofs.counts.what_is_entered_is_of_the_run.Goals as goal

pub returns-clause-all : goal.returns-clause-all
returns-clause-all c = nested_of_run

pub returns-clause-along : goal.returns-clause-along
returns-clause-along c = front_of_run
