use Rattle.std.proofs.Common.{sym, ◌∙◌, arith}
use Rattle.xt_sort.proofs.Keys.{both_end, first_ends, second_ends}
use Rattle.xt_sort.proofs.comparing.compare_keys.Goals as goal

pub returns-then-index-second : goal.returns-then-index-second
returns-then-index-second c =
    sym (both_end c.loop-index.index c.args.criteria.now c.args.first.now c.args.second.now (omega arith) (omega arith) (omega arith)) ∙ c.loop-index.invariant

pub returns-else-index-second : goal.returns-else-index-second
returns-else-index-second c =
    sym (first_ends c.loop-index.index c.args.criteria.now c.args.first.now c.args.second.now (omega arith) (omega arith) (omega arith)) ∙ c.loop-index.invariant

pub returns-then-index-second-2 : goal.returns-then-index-second-2
returns-then-index-second-2 c =
    sym (second_ends c.loop-index.index c.args.criteria.now c.args.first.now c.args.second.now (omega arith) (omega arith) (omega arith)) ∙ c.loop-index.invariant
