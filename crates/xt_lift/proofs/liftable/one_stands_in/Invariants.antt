use Rattle.std.proofs.Common.{◌≡◌, drop, map}
use Rattle.std.specs.List.{list_any}
use Rattle.spec_items.specs.Lifted.{stands_in}
use Rattle.xt_syntax.specs.SheetView.{unit_of}
use Rattle.xt_lift.proofs.liftable.one_stands_in.Given as goal

abbrev pub invariant-loop-item : goal.invariant-loop-item
invariant-loop-item l =
    list_any (λ item. stands_in item.site.place (map unit_of l.units)) (map unit_of (drop l.item-index l.items))
    ≡ list_any (λ item. stands_in item.site.place (map unit_of l.units)) (map unit_of l.items)
