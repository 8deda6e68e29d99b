use Rattle.std.proofs.Common.{◌≡◌, ℕ, [], take}
use Rattle.spec_stylesheet.specs.Place.{Place}
use Rattle.xt_world.specs.Numbered.{numbers_among}
use Rattle.xt_world.specs.Turned.{AreNumbersOf}
use Rattle.xt_world.specs.Units.{plain_units}
use Rattle.xt_world.proofs.numbers.add_all.Given as goal

abbrev pub invariant-loop-turn : goal.invariant-loop-turn
invariant-loop-turn l =
    (meant : Place → ℕ) → l.given ≡ numbers_among meant (plain_units l.units) → l.fn.places.entries ≡ []
    → AreNumbersOf meant (plain_units (take l.turn l.units)) l.places.entries
