use Rattle.std.proofs.Common.{◌++◌, drop}
use Rattle.xt_edit.specs.Telling.{numbers_in}
use Rattle.xt_touch.specs.Sets.{AreSame}
use Rattle.xt_touch.proofs.numbers.Numbers.add_all.Given as goal

abbrev pub invariant-loop-node : goal.invariant-loop-node
invariant-loop-node l = AreSame (l.self ++ numbers_in (drop l.node-index l.nodes)) (l.fn.self ++ numbers_in l.nodes)
