use Rattle.spec_agreement.proofs.Agreeing.{same_said, same_reads}
use Rattle.spec_agreement.proofs.calls.calls_agree.Goals as goal

pub returns-clause-said : goal.returns-clause-said
returns-clause-said g c = λ type view p supply others depth below old new there after first second said kept reads r e ended o n hold t.
    same_said view supply others depth p old new there after first second said kept reads r e ended o n below hold t

pub returns-clause-reads : goal.returns-clause-reads
returns-clause-reads g c = λ type view p supply others depth old new there after first second said kept reads r e ended o n hold t.
    same_reads view supply others depth p old new there after first second said kept reads r e ended o n hold t
