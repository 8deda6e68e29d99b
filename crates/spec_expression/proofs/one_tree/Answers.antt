use Rattle.std.proofs.Common.{arith}
use Rattle.spec_expression.proofs.Unique.{same}
use Rattle.spec_expression.proofs.one_tree.Goals as goal

pub returns : goal.returns
returns c scope ts e f r s = (same r (omega arith) s (omega arith)).0
