-- The true answers of a stylesheet and a source where nodes are named by numbers: those of the source by their own, and the element of a unit
-- by a number that its place is given, as an attribute of the number 0. Attributes are counted from 1, so no element is called as a node of
-- the source is.
use Rattle.std.specs.Prelude.{ℕ, ◌≡◌, Bool, List, IsTrue, map}
use Rattle.std.specs.List.{list_any}
use Rattle.spec_document.specs.Forest.{Document}
use Rattle.spec_document.specs.Order.{entries_of}
use Rattle.spec_stylesheet.specs.Place.{Place}
use Rattle.spec_stylesheet.specs.Sheet.{Sheet, Unit}
use Rattle.spec_meaning.specs.Question.{Question, Answer}
use Rattle.spec_run.specs.Documents.{Parameters}
use Rattle.spec_run.specs.Meaning.{Setting}
use Rattle.spec_run.specs.World.{globals_of, same_element, truth_by}
use Rattle.spec_node.specs.declared.node_ref.NodeRef.{NodeRef}
use Rattle.spec_node.specs.declared.node_ref.Part.TheVariants as part
use Rattle.spec_node.specs.Naming.{ref_of, same_ref}

-- whether one of these units stands at this place
abbrev pub has_unit : List Unit → Place → Bool
has_unit units place = list_any (λ u. same_element place u.site.place) units

-- these numbers of places tell units apart: where units stand at two places with one number, the two are one place
abbrev pub IsNaming : (Place → ℕ) → List Unit → Type 0
IsNaming numbers units =
    (place other : Place) → IsTrue (has_unit units place) → IsTrue (has_unit units other) → numbers place ≡ numbers other → place ≡ other

-- the numbers of the places of these units, one for each unit
abbrev pub numbers_among : (Place → ℕ) → List Unit → List ℕ
numbers_among numbers units = map (λ u. numbers u.site.place) units

-- each place where one of these units stands has the same number by both
abbrev pub AgreeAmong : (numbers other : Place → ℕ) → List Unit → Type 0
AgreeAmong numbers other units = (place : Place) → IsTrue (has_unit units place) → numbers place ≡ other place

-- if what is given are the numbers of the places of these units, unit by unit, by numbers that tell them apart, then these are those numbers
abbrev pub AreAsGiven : List ℕ → (Place → ℕ) → List Unit → Type 0
AreAsGiven given numbers units = (meant : Place → ℕ) → given ≡ numbers_among meant units → IsNaming meant units → AgreeAmong numbers meant units

abbrev pub ref_to : ℕ → NodeRef
ref_to number = record { node = record { number = number }; part = part.Itself }

-- what the element at a place is called, where places have these numbers
abbrev pub element_called : (Place → ℕ) → Place → NodeRef
element_called numbers place = record { node = record { number = numbers place }; part = part.Attribute 0 }

abbrev pub truth_by_numbers : (Place → ℕ) → Sheet → Parameters → Document ℕ → Question NodeRef → Answer NodeRef
truth_by_numbers numbers s parameters document = truth_by ref_of same_ref (element_called numbers) s parameters (entries_of document)

abbrev pub setting_by_numbers : (Place → ℕ) → Sheet → Parameters → Document ℕ → Setting NodeRef
setting_by_numbers numbers s parameters document =
    record {
      ask = truth_by_numbers numbers s parameters document;
      same = same_ref;
      root = ref_to document.root;
      globals = globals_of (element_called numbers) s.units;
    }
