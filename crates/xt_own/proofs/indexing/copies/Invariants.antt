use Rattle.std.proofs.Common.{◌≡◌, take}
use Rattle.xt_own.proofs.indexing.copies.Given as goal

abbrev pub invariant-loop-text : goal.invariant-loop-text
invariant-loop-text l = l.list.items ≡ take l.text-index l.texts
