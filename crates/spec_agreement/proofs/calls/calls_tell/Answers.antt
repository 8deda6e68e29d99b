use Rattle.spec_agreement.proofs.Agreeing.{call_leaves_truth, call_says, call_reads}
use Rattle.spec_agreement.proofs.calls.calls_tell.Goals as goal

pub returns-clause-truth : goal.returns-clause-truth
returns-clause-truth g c = λ type view p supply depth old new result runs. call_leaves_truth view supply depth p old new result runs

pub returns-clause-said : goal.returns-clause-said
returns-clause-said g c = λ type view p supply depth old new result runs. call_says view supply depth p old new result runs

pub returns-clause-reads : goal.returns-clause-reads
returns-clause-reads g c = λ type view p supply depth old new result runs. call_reads view supply depth p old new result runs
