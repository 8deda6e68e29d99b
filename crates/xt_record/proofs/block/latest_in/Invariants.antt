use Rattle.xt_record.specs.Listed.{keys_of}
use Rattle.xt_record.proofs.Chaining.{IsPassed}
use Rattle.xt_record.proofs.block.latest_in.Given as goal

abbrev pub invariant-loop-end : goal.invariant-loop-end
invariant-loop-end l = IsPassed (keys_of l.entries) l.key l.turn l.end

abbrev pub decreases-loop-end : goal.decreases-loop-end
decreases-loop-end l = l.end
