use Rattle.spec_reuse.proofs.Counting.{served_asks, found_again, all_found_again, reference_found_again}
use Rattle.spec_reuse.proofs.counts.what_was_found_is_found_again.Goals as goal

pub returns-clause-asks : goal.returns-clause-asks
returns-clause-asks c = served_asks

pub returns-clause-again : goal.returns-clause-again
returns-clause-again c = found_again

pub returns-clause-all : goal.returns-clause-all
returns-clause-all c = all_found_again

pub returns-clause-reference : goal.returns-clause-reference
returns-clause-reference c = reference_found_again
