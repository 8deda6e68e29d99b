use Rattle.std.proofs.Common.{take}
use Rattle.xt_record.specs.Taken.{AllWithin}
use Rattle.xt_record.proofs.block.all_within.Given as goal

abbrev pub invariant-loop-index : goal.invariant-loop-index
invariant-loop-index l = AllWithin l.ahead (take l.index l.entries)
