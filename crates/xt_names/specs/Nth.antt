-- What stands at a number in a list of declarations.
use Rattle.std.specs.Prelude.{ℕ, ◌≡◌, ◌-◌, List, Option, None, Some, length}
use Rattle.spec_document.specs.Place.{at_number}
use Rattle.xt_names.specs.View.{Entry}

-- it stands at this number, which counts from 1; where nothing does, so many fewer are left as there are
abbrev pub IsNth : (number left : ℕ) → List Entry → Option Entry → Type 0
IsNth number left entries None = (at_number number entries ≡ None) × (left ≡ number - length entries)
IsNth number left entries (Some entry) = at_number number entries ≡ Some entry
