use Rattle.spec_agreement.proofs.Agreeing.{same_standing}
use Rattle.spec_agreement.proofs.calls.calls_agree_where_reads_stand.Goals as goal

pub returns : goal.returns
returns g c = λ type view p supply depth below old new there after first second said kept reads r e ended o n stand t.
    same_standing view supply supply depth p old new there after first second said kept reads r e ended o n below stand t
