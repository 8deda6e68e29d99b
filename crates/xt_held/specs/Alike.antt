-- What two stylesheets answer alike, of any source, and which of that is asked for all the same.
use Rattle.std.specs.Prelude.{ℕ, ◌≡◌, ◌⊎◌, true, false, List, Option}
use Rattle.spec_document.specs.Forest.{Document}
use Rattle.spec_document.specs.Name.{Expanded}
use Rattle.spec_meaning.specs.Question.{Candidates, Choice}
use Rattle.spec_run.specs.Documents.{Parameters}
use Rattle.spec_node.specs.declared.node_ref.NodeRef.{NodeRef}
use Rattle.spec_touch.specs.Marks.{in_mode, is_unit_among}
use Rattle.xt_record.specs.Asked.{NoUnitIsAsked, UnitIsAsked}
use Rattle.xt_record.specs.declared.pool.Pool.{Pool}
use Rattle.xt_world.specs.View.{truth_in, unit_held}
use Rattle.xt_world.specs.declared.stylesheet.Stylesheet.{Stylesheet}

-- they have the same units for these elements
abbrev pub HaveUnitsAlike : (old new : Stylesheet) → (units : List NodeRef) → Type 0
HaveUnitsAlike old new units = (element : NodeRef) → is_unit_among units element ≡ true → unit_held old element ≡ unit_held new element

-- one for whose unit these records ask is none of these elements, if they ask for any
abbrev pub LeaveOneOut : Pool → (units : List NodeRef) → Type 0
LeaveOneOut records units =
    NoUnitIsAsked records.records.items ⊎ ((element : NodeRef) × UnitIsAsked element records.records.items × (is_unit_among units element ≡ false))

-- they choose the same rule for each node, but in these modes
abbrev pub ChooseAlike : (old new : Stylesheet) → (asking : Option (List (Option Expanded))) → Type 0
ChooseAlike old new asking =
    (parameters : Parameters) (source : Document ℕ) (node : NodeRef) (mode : Option Expanded) (candidates : Candidates) → in_mode asking mode ≡ false
    → truth_in old parameters source (Choice node mode candidates) ≡ truth_in new parameters source (Choice node mode candidates)
