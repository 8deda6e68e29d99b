use Rattle.std.proofs.Common.{◌≡◌, drop, map}
use Rattle.std.specs.List.{list_any}
use Rattle.spec_items.specs.Liftable.{have_one_name}
use Rattle.xt_syntax.specs.SheetView.{declared_of, unit_of}
use Rattle.xt_lift.proofs.liftable.one_has_name.Given as goal

abbrev pub invariant-loop-unit : goal.invariant-loop-unit
invariant-loop-unit l =
    list_any (λ later. have_one_name (declared_of l.declared) later.declared) (map unit_of (drop l.unit-index l.units))
    ≡ list_any (λ later. have_one_name (declared_of l.declared) later.declared) (map unit_of l.units)
