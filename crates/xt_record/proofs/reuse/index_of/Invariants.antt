use Rattle.std.proofs.Common.{◌≡◌, take}
use Rattle.xt_record.specs.Chain.{keys_in}
use Rattle.xt_record.proofs.reuse.index_of.Given as goal

abbrev pub invariant-loop-turn : goal.invariant-loop-turn
invariant-loop-turn l = keys_in l.index.records.items ≡ keys_in (take l.turn l.pool.records.items)
