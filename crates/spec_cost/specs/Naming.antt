-- What the elements of a stylesheet are called: by their numbers, so that an element is called as before where a module is edited elsewhere.
--     element_called   what an element of a number is called
--     AreNumbers       the numbers of the elements of units
--     IsNamed          all units are called so
use Rattle.std.specs.Prelude.{ℕ, ◌≡◌, List, Option, None, Some, Ok}
use Rattle.std.specs.Option.{option_and_then, option_map}
use Rattle.spec_document.specs.Forest.{Document}
use Rattle.spec_document.specs.Place.{node_at}
use Rattle.spec_node.specs.declared.node_ref.NodeRef.{NodeRef}
use Rattle.spec_node.specs.declared.node_ref.Part.TheVariants as part
use Rattle.spec_stylesheet.specs.Place.{Place}
use Rattle.spec_stylesheet.specs.Sheet.{Sheet, Unit}
use Rattle.spec_structure.specs.Modules.{Modules}
use Rattle.spec_compile.specs.Sheet.{IsSheet}
use Rattle.spec_run.specs.Documents.{main_name}
use Rattle.spec_items.specs.Liftable.{with_items}
use Rattle.spec_reuse.specs.Among.{IsIn}
use Rattle.spec_cost.specs.Numbers.{NumberedModules}

-- as an attribute of the number 0. Those of the source are counted from 1, so no element is called as a node of the source is
abbrev pub element_called : ℕ → NodeRef
element_called number = record { node = record { number = number }; part = part.Attribute 0 }

-- the number of the element at a place of modules
abbrev pub number_in : Option (Document ℕ) → List ℕ → Option ℕ
number_in document path = option_and_then (λ d. option_map (λ found. found.label) (node_at d path)) document

abbrev pub number_by : NumberedModules → Option (List ℕ) → List ℕ → Option ℕ
number_by modules None path = None
number_by modules (Some name) path = number_in (modules name) path

abbrev pub number_at : NumberedModules → Place → Option ℕ
number_at modules place = number_by modules place.module_name place.path

-- these are the numbers of the elements of units, and tell them apart
pub record AreNumbers (modules : NumberedModules) (units : List Unit) (numbers : Place → ℕ) : Type 0 where
  pub each : (u : Unit) → IsIn u units → number_at modules u.site.place ≡ Some (numbers u.site.place)
  pub apart : (u v : Unit) → IsIn u units → IsIn v units → numbers u.site.place ≡ numbers v.site.place → u.site.place ≡ v.site.place

-- where the modules are a stylesheet, and the numbers of their elements tell its units apart, each unit is called by the number of its element
abbrev pub IsNamed : (Place → NodeRef) → Modules → NumberedModules → Type 0
IsNamed called modules numbered =
    (sheet : Sheet) (numbers : Place → ℕ) → IsSheet modules main_name (Ok sheet) → AreNumbers numbered (with_items sheet).units numbers
    → (u : Unit) → IsIn u (with_items sheet).units → called u.site.place ≡ element_called (numbers u.site.place)
