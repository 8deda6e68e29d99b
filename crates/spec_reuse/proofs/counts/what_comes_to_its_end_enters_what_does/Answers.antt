use Rattle.spec_reuse.proofs.Ends.{call_ends, given_ends}
use Rattle.spec_reuse.proofs.counts.what_comes_to_its_end_enters_what_does.Goals as goal

pub returns-clause-call : goal.returns-clause-call
returns-clause-call c = call_ends

pub returns-clause-reference : goal.returns-clause-reference
returns-clause-reference c = given_ends
