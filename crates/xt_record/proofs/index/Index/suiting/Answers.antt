use Rattle.std.proofs.Common.{arith, sym}
use Rattle.xt_record.proofs.Judging.{read_at}
use Rattle.xt_record.proofs.index.Index.suiting.Goals as goal

pub returns-clause-at : goal.returns-clause-at
returns-clause-at c =
    read_at c.args.self.now.records.items c.args.turn c.index-record.result.now c.in_ok-clone.field-0 (omega arith) c.index-record.ensures
    (sym c.in_ok-clone.ensures.cases)
