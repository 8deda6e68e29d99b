use Rattle.std.proofs.Common.{arith}
use Rattle.xt_record.proofs.Ok.{if_ok}
use Rattle.xt_record.proofs.taking.whole_within.Goals as goal

pub returns-clause-inside : goal.returns-clause-inside
returns-clause-inside c = if_ok c.shared.result c.shared.ensures (λ o h w is. omega arith)
