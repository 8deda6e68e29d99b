use Rattle.std.proofs.Common.{◌≡◌, List, ◌++◌, length, map, reverse}
use Rattle.spec_stylesheet.specs.Sheet.{Unit as Piece}
use Rattle.xt_engine.specs.View.{named_of}
use Rattle.xt_world.specs.Indexed.{AreNamed}
use Rattle.xt_world.specs.Turned.{numbers_in, units_of}
use Rattle.xt_world.specs.Units.{globals_among, plain_units}
use Rattle.xt_world.proofs.stylesheet.globals.Given as goal

abbrev pub invariant-loop-unit : goal.invariant-loop-unit
invariant-loop-unit l =
    (rest : List Piece) × (plain_units l.left ++ rest ≡ units_of l.numbers) × AreNamed l.later.keys rest
    × (map named_of (reverse l.list.items) ≡ globals_among (numbers_in l.numbers) rest)

abbrev pub decreases-loop-unit : goal.decreases-loop-unit
decreases-loop-unit l = length l.left
