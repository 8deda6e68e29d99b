use Rattle.std.proofs.Common.{◌≡◌, ◌++◌, drop}
use Rattle.xt_world.specs.Turned.{numbers_in, units_of}
use Rattle.xt_world.specs.Units.{called_among, plain_units}
use Rattle.xt_world.proofs.stylesheet.elements.Given as goal

abbrev pub invariant-loop-unit : goal.invariant-loop-unit
invariant-loop-unit l =
    l.elements.items ++ called_among (numbers_in l.numbers) (plain_units (drop l.unit-index l.numbers.units.now))
    ≡ called_among (numbers_in l.numbers) (units_of l.numbers)
