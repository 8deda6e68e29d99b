use Rattle.std.proofs.Common.{◌≡◌, ◌++◌, drop}
use Rattle.xt_edit.specs.Reordered.{others_than}
use Rattle.xt_edit.specs.Telling.{numbers_in}
use Rattle.xt_edit.proofs.reordered.others_than.Given as goal

-- what was kept, with what is left to be kept, is all that is kept
abbrev pub invariant-loop-number : goal.invariant-loop-number
invariant-loop-number l =
    numbers_in l.others.items ++ others_than l.moved.number (numbers_in (drop l.number-index l.numbers)) ≡ others_than l.moved.number (numbers_in l.numbers)
