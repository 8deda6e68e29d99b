use Rattle.xt_match.proofs.Tables.{none_listed}
use Rattle.xt_match.proofs.table.RuleTable.new.Goals as goal

pub invariant_of-result : goal.invariant_of-result
invariant_of-result c = record { fitting = none_listed c.args.rules.now c.new.ensures.empty }
