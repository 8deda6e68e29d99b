use Rattle.std.proofs.Common.{◌≡◌, map, take}
use Rattle.xt_questions.proofs.alike.all_alike.Given as goal

abbrev pub invariant-loop-index : goal.invariant-loop-index
invariant-loop-index g l = map g.T.Alike.seen (take l.index l.list) ≡ map g.T.Alike.seen (take l.index l.others)
