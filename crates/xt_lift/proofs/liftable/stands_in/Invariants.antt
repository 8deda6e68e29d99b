use Rattle.std.proofs.Common.{◌≡◌, drop, map}
use Rattle.spec_items.specs.Lifted.{stands_in}
use Rattle.xt_syntax.specs.PartView.{place_of}
use Rattle.xt_syntax.specs.SheetView.{unit_of}
use Rattle.xt_lift.proofs.liftable.stands_in.Given as goal

abbrev pub invariant-loop-unit : goal.invariant-loop-unit
invariant-loop-unit l = stands_in (place_of l.place) (map unit_of (drop l.unit-index l.units)) ≡ stands_in (place_of l.place) (map unit_of l.units)
