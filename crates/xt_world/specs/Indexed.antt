-- The units of a stylesheet by the names of what they declare.
use Rattle.std.specs.Prelude.{◌≡◌, Bool, List, Option, None}
use Rattle.std.specs.Borrow.{Bor}
use Rattle.std.specs.List.{list_any}
use Rattle.std.specs.Map.{lookup}
use Rattle.std.specs.Option.{option_map}
use Rattle.spec_document.specs.Name.{Expanded, same_name}
use Rattle.spec_stylesheet.specs.Place as stylesheet
use Rattle.spec_stylesheet.specs.Sheet as sheet
use Rattle.spec_run.specs.World.{is_global, is_template, last_element}
use Rattle.xt_base.specs.declared.place.Place.{Place}
use Rattle.xt_world.specs.Turned.{units_of}
use Rattle.xt_world.specs.Units.{place_in}
use Rattle.xt_world.specs.declared.index.Index.{Index}
use Rattle.xt_world.specs.declared.key.NameKey.{NameKey}

abbrev pub is_name : NameKey → NameKey → Bool
is_name key other = same_name key.name.now other.name.now

-- the place of a name
abbrev pub place_named : List (NameKey × Bor Place) → Expanded → Option stylesheet.Place
place_named entries name = option_map place_in (lookup (λ k. same_name name k.name.now) entries)

abbrev pub place_at : List (NameKey × Bor Place) → NameKey → Option stylesheet.Place
place_at entries key = place_named entries key.name.now

-- whether a name is among these
abbrev pub is_among : List NameKey → NameKey → Bool
is_among keys key = list_any (is_name key) keys

-- each name has the place of the last template of this name
abbrev pub AreTemplates : Index → Type 0
AreTemplates index =
    (key : NameKey) → place_at index.templates.entries key ≡ last_element (is_template key.name.now) None (units_of index.numbers)

-- each name has the place of the last global of this name
abbrev pub AreGlobals : Index → Type 0
AreGlobals index = (key : NameKey) → place_at index.globals.entries key ≡ last_element (is_global key.name.now) None (units_of index.numbers)

-- the names of the globals among some units are these
abbrev pub AreNamed : List NameKey → List sheet.Unit → Type 0
AreNamed keys some = (key : NameKey) → is_among keys key ≡ list_any (λ u. is_global key.name.now u.declared) some
