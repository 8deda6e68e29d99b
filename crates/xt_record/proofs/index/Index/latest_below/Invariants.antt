use Rattle.xt_record.specs.Chain.{keys_in}
use Rattle.xt_record.proofs.Chaining.{Reaches}
use Rattle.xt_record.proofs.index.Index.latest_below.Given as goal

abbrev pub invariant-loop-latest : goal.invariant-loop-latest
invariant-loop-latest l = ∥ Reaches (keys_in l.self.records.items) l.fn.key l.turn l.latest ∥₁

abbrev pub decreases-loop-latest : goal.decreases-loop-latest
decreases-loop-latest l = l.latest
