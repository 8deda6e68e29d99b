-- The units of a stylesheet, and what their names name.
use Rattle.std.specs.Prelude.{ℕ, List, map}
use Rattle.std.specs.List.{filter, flat_map}
use Rattle.std.specs.declared.rc.Rc.{Rc}
use Rattle.std.specs.declared.vec.Vec.{Vec}
use Rattle.std.specs.Global.{Global}
use Rattle.std.specs.Borrow.{Bor}
use Rattle.spec_document.specs.Name.{Expanded}
use Rattle.spec_stylesheet.specs.Place as stylesheet
use Rattle.spec_stylesheet.specs.Sheet as sheet
use Rattle.spec_meaning.specs.Question as question
use Rattle.spec_run.specs.Meaning.{NamedGlobal}
use Rattle.spec_run.specs.World.{global_by, global_in, globals_of, is_set, resolved_in}
use Rattle.spec_node.specs.declared.node_ref.NodeRef.{NodeRef}
use Rattle.xt_syntax.specs.SheetView.{alias_of, unit_of}
use Rattle.xt_syntax.specs.PartView.{place_of}
use Rattle.xt_syntax.specs.declared.sheet.Alias.{Alias}
use Rattle.xt_syntax.specs.declared.unit.Unit.{Unit}
use Rattle.xt_base.specs.declared.place.Place.{Place}
use Rattle.xt_world.specs.Numbered.{element_called}

abbrev pub plain_units : List (Rc Unit Global) → List sheet.Unit
plain_units units = map (λ u. unit_of u.value) units

abbrev pub plain_aliases : Rc (Vec Alias Global) Global → List sheet.Alias
plain_aliases aliases = map alias_of aliases.value.items

abbrev pub place_in : Bor Place → stylesheet.Place
place_in place = place_of place.now

-- what the elements of some units are called, where places have these numbers
abbrev pub called_among : (stylesheet.Place → ℕ) → List sheet.Unit → List NodeRef
called_among numbers some = map (λ u. element_called numbers u.site.place) some

-- the global that a unit is, unless one of those after it is one of the same name
abbrev pub global_before : (stylesheet.Place → ℕ) → sheet.Unit → List sheet.Unit → List (NamedGlobal NodeRef)
global_before numbers u later = flat_map (global_by (element_called numbers) u later) (global_in u.declared)

-- the elements of the attribute sets of a name among some units
abbrev pub elements_named : (stylesheet.Place → ℕ) → Expanded → List sheet.Unit → List NodeRef
elements_named numbers name some = map (λ u. element_called numbers u.site.place) (filter (λ u. is_set name u.declared) some)

-- a unit of a stylesheet with what its names name
abbrev pub resolved_by : (stylesheet.Place → ℕ) → List sheet.Alias → List sheet.Unit → sheet.Unit → question.ResolvedUnit NodeRef
resolved_by numbers aliases units u = resolved_in (element_called numbers) aliases units u

-- the globals that count among some units
abbrev pub globals_among : (stylesheet.Place → ℕ) → List sheet.Unit → List (NamedGlobal NodeRef)
globals_among numbers some = globals_of (element_called numbers) some

-- some units of a stylesheet with what their names name
abbrev pub resolved_among : (stylesheet.Place → ℕ) → List sheet.Alias → List sheet.Unit → List sheet.Unit → List (question.ResolvedUnit NodeRef)
resolved_among numbers aliases units some = map (λ u. resolved_by numbers aliases units u) some
