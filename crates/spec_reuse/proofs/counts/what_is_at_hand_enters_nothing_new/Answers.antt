use Rattle.spec_reuse.proofs.Counting.{passes_served}
use Rattle.spec_reuse.proofs.Further.{further_found, passes_given}
use Rattle.spec_reuse.proofs.counts.what_is_at_hand_enters_nothing_new.Goals as goal

pub returns-clause-goes : goal.returns-clause-goes
returns-clause-goes c = passes_served

pub returns-clause-further : goal.returns-clause-further
returns-clause-further c = further_found

pub returns-clause-given : goal.returns-clause-given
returns-clause-given c = λ ask hand more room plan going last wanted depth place next given f a e. passes_given given f a e
