use Rattle.std.proofs.Common.{◌≡◌, map, take}
use Rattle.xt_lift.proofs.copies.copy_all.Given as goal

abbrev pub invariant-loop-one : goal.invariant-loop-one
invariant-loop-one g l = map g.T.Copied.seen l.copies.items ≡ map g.T.Copied.seen (take l.one-index l.list)
