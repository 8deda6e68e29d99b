use Rattle.std.proofs.Common.{◌≡◌, ◌++◌, drop}
use Rattle.xt_world.specs.Turned.{numbers_in, units_of}
use Rattle.xt_world.specs.Units.{elements_named, plain_units}
use Rattle.xt_world.proofs.resolve.sets_named.Given as goal

abbrev pub invariant-loop-unit : goal.invariant-loop-unit
invariant-loop-unit l =
    l.elements.items ++ elements_named (numbers_in l.numbers) l.name (plain_units (drop l.unit-index l.numbers.units.now))
    ≡ elements_named (numbers_in l.numbers) l.name (units_of l.numbers)
