-- What is made of the units of a stylesheet.
use Rattle.std.specs.Prelude.{◌≡◌, ℕ, List, length, map}
use Rattle.spec_stylesheet.specs.Place.{Place}
use Rattle.spec_stylesheet.specs.Sheet as sheet
use Rattle.xt_questions.specs.View.{resolved_of}
use Rattle.xt_engine.specs.View.{named_of}
use Rattle.xt_world.specs.Numbered.{AreAsGiven, IsNaming}
use Rattle.xt_world.specs.Turned.{at_number, turn_of_number}
use Rattle.xt_world.specs.Units.{called_among, globals_among, resolved_among}
use Rattle.xt_world.specs.declared.stylesheet.Parts.{Parts}

-- with some numbers of places that tell these units apart, the given ones if they do, it is what is made of the units
pub record AreParts (given : List ℕ) (aliases : List sheet.Alias) (all : List sheet.Unit) (parts : Parts) : Type 0 where
  pub numbers : Place → ℕ
  pub naming : IsNaming numbers all
  pub served : AreAsGiven given numbers all
  pub units : map (λ u. resolved_of u.value) parts.units.items ≡ resolved_among numbers aliases all all
  pub elements : parts.elements.items ≡ called_among numbers all
  pub turns : (number : ℕ) → at_number (length all) parts.turns.entries number ≡ turn_of_number numbers 0 number all
  pub globals : map named_of parts.globals.items ≡ globals_among numbers all
