use Rattle.std.proofs.Common.{◌≡◌, ◌++◌, map}
use Rattle.xt_syntax.specs.SheetView.{unit_of}
use Rattle.xt_world.specs.Units.{plain_units}
use Rattle.xt_world.proofs.stylesheet.shared.Given as goal

abbrev pub invariant-loop-unit : goal.invariant-loop-unit
invariant-loop-unit l = plain_units l.list.items ++ map unit_of l.unit-iterator.rest.items ≡ map unit_of l.fn.units.items
