use Rattle.spec_reuse.proofs.Counting.{front_entered, gone_over, some_gone_over, front_then_all, front_then_front}
use Rattle.spec_reuse.proofs.counts.a_part_counts_once.Goals as goal

pub returns-clause-along : goal.returns-clause-along
returns-clause-along c = front_entered

pub returns-clause-again : goal.returns-clause-again
returns-clause-again c = gone_over

pub returns-clause-some : goal.returns-clause-some
returns-clause-some c = some_gone_over

pub returns-clause-all : goal.returns-clause-all
returns-clause-all c = front_then_all

pub returns-clause-front : goal.returns-clause-front
returns-clause-front c = front_then_front
