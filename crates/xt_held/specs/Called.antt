-- The documents that are held with the numbers of their nodes, and what the elements of a stylesheet are called by these.
--     numbered_modules   the modules by their names
--     numbers_among      the numbers of the elements of units
--     IsCalledIn         what the elements of what is held of modules are called
--     AreCalled          they are called by their numbers, where these tell the units apart
use Rattle.std.specs.Prelude.{ℕ, ◌≡◌, List, [], ◌∷◌, map, Option, None, Some, Ok}
use Rattle.std.specs.List.{flat_map}
use Rattle.std.specs.Map.{lookup}
use Rattle.std.specs.declared.alloc.Global.{Global}
use Rattle.std.specs.declared.string.String.{String}
use Rattle.spec_document.specs.Forest.{Document}
use Rattle.spec_document.specs.Order.{entries_of}
use Rattle.spec_stylesheet.specs.Place.{Place}
use Rattle.spec_stylesheet.specs.Sheet.{Sheet, Unit as Piece}
use Rattle.spec_structure.specs.Modules.{Modules}
use Rattle.spec_compile.specs.Sheet.{IsSheet}
use Rattle.spec_meaning.specs.Question.{Question}
use Rattle.spec_run.specs.Documents.{Parameters, main_name}
use Rattle.spec_run.specs.World.{globals_of, truth_by}
use Rattle.spec_items.specs.Liftable.{with_items}
use Rattle.spec_node.specs.declared.node_ref.NodeRef.{NodeRef}
use Rattle.spec_node.specs.Naming.{ref_of, same_ref}
use Rattle.spec_cost.specs.Naming.{IsNamed, number_at}
use Rattle.spec_cost.specs.Numbers.{NumberedModules}
use Rattle.xt_syntax.specs.SheetView.{space_rules_of}
use Rattle.xt_engine.specs.View.{named_of}
use Rattle.xt_import.specs.View.{is_name}
use Rattle.xt_world.specs.View.{truth_in}
use Rattle.xt_world.specs.declared.stylesheet.Stylesheet as world
use Rattle.xt_held.specs.declared.stylesheet.Compiled.{Compiled}
use Rattle.xt_held.specs.declared.stylesheet.Compiled.TheVariants.{Stylesheet, Refused}

-- each name that is held leads to its module, with the numbers of its nodes
abbrev pub numbered_modules : List (String Global × Document ℕ) → NumberedModules
numbered_modules entries = λ name. lookup (is_name name) entries

-- the numbers of the elements of these units, of each that has one
abbrev pub alone : Option ℕ → List ℕ
alone None = []
alone (Some number) = number ∷ []

abbrev pub numbers_among : NumberedModules → List Piece → List ℕ
numbers_among modules units = flat_map (λ u. alone (number_at modules u.site.place)) units

-- in the world of any source, with any parameters, it answers as this stylesheet does, whose elements are called so
pub record IsCalled (called : Place → NodeRef) (sheet : Sheet) (held : world.Stylesheet) : Type 0 where
  pub truth : (parameters : Parameters) (document : Document ℕ) (q : Question NodeRef)
      → truth_in held parameters document q ≡ truth_by ref_of same_ref called sheet parameters (entries_of document) q
  pub globals : map named_of held.globals.items ≡ globals_of called sheet.units

-- where the modules are a stylesheet, its elements are called so
abbrev pub IsCalledIn : (Place → NodeRef) → Modules → Option Compiled → Type 0
IsCalledIn called modules None = Unit {0}
IsCalledIn called modules (Some (Refused why)) = Unit {0}
IsCalledIn called modules (Some (Stylesheet held rules method)) =
    (sheet : Sheet) × IsSheet modules main_name (Ok sheet) × IsCalled called (with_items sheet) held × (space_rules_of rules ≡ (with_items sheet).space_rules)

-- the elements of what modules are can be called so that each unit is called by the number of its element, where these numbers tell the units apart
abbrev pub AreCalled : Modules → NumberedModules → Option Compiled → Type 0
AreCalled modules numbered compiled = (called : Place → NodeRef) × IsCalledIn called modules compiled × IsNamed called modules numbered
