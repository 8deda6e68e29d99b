use Rattle.std.proofs.Common.{◌≡◌, ◌++◌, take, drop, map}
use Rattle.spec_items.specs.Lifted.{left_unit, items, items_behind}
use Rattle.xt_syntax.specs.SheetView.{unit_of}
use Rattle.xt_lift.proofs.sheet.lift_units.Given as goal

abbrev pub invariant-loop-index : goal.invariant-loop-index
invariant-loop-index l = record {
  left : map unit_of l.left.items ++ map left_unit (map unit_of (drop l.index l.units)) ≡ map left_unit (map unit_of l.units);
  items : map unit_of l.items.items ++ items_behind (map unit_of (take l.index l.units)) (map unit_of (drop l.index l.units)) ≡ items (map unit_of l.units);
}
