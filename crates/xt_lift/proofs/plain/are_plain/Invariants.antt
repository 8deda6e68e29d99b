use Rattle.std.proofs.Common.{◌≡◌, drop, map}
use Rattle.std.specs.List.{list_all}
use Rattle.spec_items.specs.Liftable.{is_plain_declared}
use Rattle.xt_syntax.specs.SheetView.{unit_of}
use Rattle.xt_lift.proofs.plain.are_plain.Given as goal

abbrev pub invariant-loop-unit : goal.invariant-loop-unit
invariant-loop-unit l = list_all (λ u. is_plain_declared u.declared) (map unit_of (drop l.unit-index l.units)) ≡ list_all (λ u. is_plain_declared u.declared) (map unit_of l.units)
