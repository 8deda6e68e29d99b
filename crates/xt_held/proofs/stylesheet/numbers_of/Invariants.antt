use Rattle.std.proofs.Common.{◌≡◌, ◌++◌, drop, map}
use Rattle.xt_syntax.specs.SheetView.{unit_of}
use Rattle.xt_held.specs.Called.{numbered_modules, numbers_among}
use Rattle.xt_held.proofs.stylesheet.numbers_of.Given as goal

abbrev pub invariant-loop-unit : goal.invariant-loop-unit
invariant-loop-unit l =
    l.numbers.items ++ numbers_among (numbered_modules l.modules.entries) (map unit_of (drop l.unit-index l.units))
    ≡ numbers_among (numbered_modules l.modules.entries) (map unit_of l.units)
