use Rattle.std.proofs.Common.{◌≡◌, drop}
use Rattle.spec_stylesheet.specs.Place.{Place}
use Rattle.xt_world.specs.Turned.{at_place, turn_of_place}
use Rattle.xt_world.specs.Units.{plain_units}
use Rattle.xt_world.proofs.numbers.first_turns.Given as goal

abbrev pub invariant-loop-unit : goal.invariant-loop-unit
invariant-loop-unit l = record {
  counted : l.turn ≡ l.unit-index;
  same : (place : Place)
      → at_place (turn_of_place l.turn place (plain_units (drop l.unit-index l.units))) l.places.entries place
      ≡ turn_of_place 0 place (plain_units l.units);
}
