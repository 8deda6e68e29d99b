-- The numbers of the places of units, and the turns of units by their numbers.
use Rattle.std.specs.Prelude.{◌≡◌, ℕ, ◌+◌, ◌==◌, Bool, false, List, [], ◌∷◌, length, slice_get, Option, None, Some, if◌then◌else◌}
use Rattle.std.specs.Map.{lookup}
use Rattle.std.specs.declared.rc.Rc.{Rc}
use Rattle.std.specs.Global.{Global}
use Rattle.spec_stylesheet.specs.Place.{Place}
use Rattle.spec_stylesheet.specs.Sheet as sheet
use Rattle.spec_run.specs.World.{same_element}
use Rattle.xt_syntax.specs.PartView.{place_of}
use Rattle.xt_syntax.specs.SheetView.{unit_of}
use Rattle.xt_syntax.specs.declared.unit.Unit.{Unit}
use Rattle.xt_world.specs.Numbered.{has_unit}
use Rattle.xt_world.specs.Units.{plain_units}
use Rattle.xt_world.specs.declared.key.PlaceKey.{PlaceKey}
use Rattle.xt_world.specs.declared.numbers.Numbers.{Numbers}

-- the turn of the first unit at a place, counted from this one
abbrev pub turn_of_place : ℕ → Place → List sheet.Unit → ℕ
turn_of_place turn place [] = turn
turn_of_place turn place (u ∷ us) = if same_element place u.site.place then turn else turn_of_place (turn + 1) place us

-- the turn of the first unit whose place has this number, counted from this one
abbrev pub turn_of_number : (Place → ℕ) → ℕ → ℕ → List sheet.Unit → ℕ
turn_of_number numbers turn number [] = turn
turn_of_number numbers turn number (u ∷ us) = if number == numbers u.site.place then turn else turn_of_number numbers (turn + 1) number us

-- what was found, or else this number
abbrev pub found_or : ℕ → Option ℕ → ℕ
found_or other None = other
found_or other (Some number) = number

-- the number at a place, or else this one
abbrev pub at_place : ℕ → List (PlaceKey × ℕ) → Place → ℕ
at_place other entries place = found_or other (lookup (λ key. same_element place (place_of key.place.now)) entries)

-- a place where one of these units stands has its number there, and no other place has one
abbrev pub AreNumbersOf : (Place → ℕ) → List sheet.Unit → List (PlaceKey × ℕ) → Type 0
AreNumbersOf numbers units entries =
    (place : Place) (other : ℕ) → at_place other entries place ≡ (if has_unit units place then numbers place else other)

-- the turn of a number, where it has one
abbrev pub turn_found : List (ℕ × ℕ) → ℕ → Option ℕ
turn_found entries number = lookup (λ key. number == key) entries

-- the turn of a number, or else this one
abbrev pub at_number : ℕ → List (ℕ × ℕ) → ℕ → ℕ
at_number other entries number = found_or other (turn_found entries number)

abbrev pub units_of : Numbers → List sheet.Unit
units_of numbers = plain_units numbers.units.now

-- the number of each place
abbrev pub numbers_in : Numbers → Place → ℕ
numbers_in numbers place = at_place (length numbers.units.now) numbers.places.entries place

-- whether there is a unit, and it stands at this place
abbrev pub stands_at : Place → Option (Rc Unit Global) → Bool
stands_at place None = false
stands_at place (Some u) = same_element place (unit_of u.value).site.place

-- whether the unit of this turn stands at this place
abbrev pub is_at_turn : List (Rc Unit Global) → Place → Option ℕ → Bool
is_at_turn units place None = false
is_at_turn units place (Some turn) = stands_at place (slice_get units turn)

-- whether what the number of a place leads to stands at that place
abbrev pub leads_back : Numbers → List (ℕ × ℕ) → Place → Bool
leads_back numbers turns place = is_at_turn numbers.units.now place (turn_found turns (numbers_in numbers place))
