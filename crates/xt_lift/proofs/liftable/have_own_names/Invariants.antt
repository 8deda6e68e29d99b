use Rattle.std.proofs.Common.{◌≡◌, drop, map}
use Rattle.spec_items.specs.Liftable.{have_own_names}
use Rattle.xt_syntax.specs.SheetView.{unit_of}
use Rattle.xt_lift.proofs.liftable.have_own_names.Given as goal

abbrev pub invariant-loop-index : goal.invariant-loop-index
invariant-loop-index l = have_own_names (map unit_of (drop l.index l.units)) ≡ have_own_names (map unit_of l.units)
