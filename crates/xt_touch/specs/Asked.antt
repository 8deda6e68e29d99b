-- The modes in which the choice of a rule asks more than names, and no others.
use Rattle.std.specs.Prelude.{◌≡◌, not, List, Option}
use Rattle.spec_document.specs.Name.{Expanded}
use Rattle.spec_stylesheet.specs.Sheet.{Rule}
use Rattle.spec_touch.specs.Plain.{are_plain_in, is_mode_among}

abbrev pub AreAllAsking : (modes : List (Option Expanded)) → List Rule → Type 0
AreAllAsking modes rules = (mode : Option Expanded) → are_plain_in mode rules ≡ not (is_mode_among modes mode)
