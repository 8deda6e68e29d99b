use Rattle.std.proofs.Common.{◌≡◌, ℕ, drop}
use Rattle.xt_world.specs.Turned.{at_number, numbers_in, turn_of_number, units_of}
use Rattle.xt_world.specs.Units.{plain_units}
use Rattle.xt_world.proofs.numbers.turns_of.Given as goal

abbrev pub invariant-loop-unit : goal.invariant-loop-unit
invariant-loop-unit l = record {
  counted : l.turn ≡ l.unit-index;
  same : (number : ℕ)
      → at_number (turn_of_number (numbers_in l.numbers) l.turn number (plain_units (drop l.unit-index l.numbers.units.now))) l.turns.entries number
      ≡ turn_of_number (numbers_in l.numbers) 0 number (units_of l.numbers);
}
