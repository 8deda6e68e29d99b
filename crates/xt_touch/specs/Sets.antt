-- Sets of numbers and of elements, seen as lists of which it counts alone what is among them.
use Rattle.std.specs.Prelude.{ℕ, ◌≡◌, ◌==◌, Bool, ◌&&◌, List, ◌∷◌, ◌++◌}
use Rattle.spec_change.specs.Change.{Change, is_among}
use Rattle.spec_node.specs.declared.node_ref.NodeRef.{NodeRef}
use Rattle.spec_touch.specs.Marks.{is_unit_among}
use Rattle.spec_touch.specs.Touched.{is_attribute}
use Rattle.xt_touch.specs.Named.{LieWithin}
use Rattle.xt_touch.specs.declared.named.Bounds.{Bounds}

-- the same numbers are among both
abbrev pub AreSame : (numbers others : List ℕ) → Type 0
AreSame numbers others = (n : ℕ) → is_among numbers n ≡ is_among others n

-- the same elements
abbrev pub AreSameElements : (elements others : List NodeRef) → Type 0
AreSameElements elements others = (element : NodeRef) → is_unit_among elements element ≡ is_unit_among others element

-- what a change is looked up in: sets of the nodes that go or come, of the node of the change with those above it, and of its children before and
-- after; and bounds of those that go or come and of the children
pub record AreSetsOf (change : Change) (moving holding children : List ℕ) (goes beside : Bounds) : Type 0 where
  pub of_moving : AreSame moving (change.gone ++ change.brought)
  pub of_holding : AreSame holding (change.node ∷ change.above)
  pub of_children : AreSame children (change.before ++ change.after)
  pub within_goes : LieWithin (change.gone ++ change.brought) goes
  pub within_beside : LieWithin (change.before ++ change.after) beside

-- an attribute of an element whose attributes change
abbrev pub is_changed_attribute : Change → NodeRef → Bool
is_changed_attribute change node = change.of_attributes && is_attribute node.part && (node.node.number == change.node)

-- what some children are looked up in
pub record AreSetOf (numbers set : List ℕ) (bounds : Bounds) : Type 0 where
  pub of_all : AreSame set numbers
  pub within : LieWithin numbers bounds
