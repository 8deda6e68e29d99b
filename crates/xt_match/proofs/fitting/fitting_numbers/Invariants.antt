use Rattle.std.proofs.Common.{◌≡◌, ◌++◌, drop, map}
use Rattle.xt_syntax.specs.SheetView.{rule_of}
use Rattle.xt_match.specs.Fitting.{numbers_from}
use Rattle.xt_match.specs.Tabled.{called_of}
use Rattle.xt_match.proofs.fitting.fitting_numbers.Given as goal

abbrev pub invariant-loop-number : goal.invariant-loop-number
invariant-loop-number l =
    l.numbers.items ++ numbers_from (called_of l.called) l.number (map rule_of (drop l.number l.rules))
    ≡ numbers_from (called_of l.called) 0 (map rule_of l.rules)
