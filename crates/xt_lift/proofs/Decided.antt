-- When a stylesheet is lifted, and what it is then.
use Rattle.std.proofs.Common.{◌≡◌, Bool, true, false, not, ◌&&◌, List, ◌++◌, map, refl, ap, sym, ◌∙◌, if◌then◌else◌}
use Rattle.std.proofs.lemmas.Bool.{and_left, and_right, and_from}
use Rattle.std.specs.List.{list_any}
use Rattle.spec_stylesheet.specs.Sheet as sheet
use Rattle.spec_stylesheet.specs.Sheet.{Sheet}
use Rattle.spec_items.specs.Liftable.{is_liftable, with_items, have_own_names}
use Rattle.spec_items.specs.Lifted.{items, left_unit, lifted, stands_in}
use Rattle.xt_lift.specs.Left.{is_plain_sheet, are_apart, with_units}

grouped : (a b c : Bool) → ((a && b) && c) ≡ (a && (b && c))
grouped true b c = refl
grouped false b c = refl

liftable_is : (s : Sheet) → is_liftable s ≡ (is_plain_sheet s && are_apart (items s.units) s.units)
liftable_is s = grouped (is_plain_sheet s) (not (list_any (λ item. stands_in item.site.place s.units) (items s.units))) (have_own_names (items s.units))

pub not_plain : (s : Sheet) → is_plain_sheet s ≡ false → s ≡ with_items s
not_plain s h = sym (ap (λ b. if b then lifted s else s) (liftable_is s ∙ and_left (is_plain_sheet s) (are_apart (items s.units) s.units) h))

pub not_apart : (s : Sheet) (its : List sheet.Unit) → its ≡ items s.units → are_apart its s.units ≡ false → s ≡ with_items s
not_apart s its e h =
    sym (ap (λ b. if b then lifted s else s)
    (liftable_is s ∙ and_right (is_plain_sheet s) (are_apart (items s.units) s.units) (ap (λ us. are_apart us s.units) (sym e) ∙ h)))

pub is_lifted : (s : Sheet) (left its : List sheet.Unit) → left ≡ map left_unit s.units → its ≡ items s.units → is_plain_sheet s ≡ true → are_apart its s.units ≡ true
    → with_units (left ++ its) s ≡ with_items s
is_lifted s left its e f p a =
    (λ i. with_units (e i ++ f i) s)
    ∙ sym (ap (λ b. if b then lifted s else s)
    (liftable_is s ∙ and_from (is_plain_sheet s) (are_apart (items s.units) s.units) p (ap (λ us. are_apart us s.units) (sym f) ∙ a)))
