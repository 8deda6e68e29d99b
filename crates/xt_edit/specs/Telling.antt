-- What the code tells of a change: its numbers, and the siblings that are not the same before and after.
use Rattle.std.specs.Prelude.{ℕ, ◌==◌, Bool, List, [], ◌∷◌, map, reverse, Option, if◌then◌else◌}
use Rattle.std.specs.declared.rc.Rc.{Rc}
use Rattle.std.specs.declared.alloc.Global.{Global}
use Rattle.std.specs.Option.{option_map}
use Rattle.spec_document.specs.Forest.{Forest, Document, labels}
use Rattle.spec_document.specs.Place.{node_at, root_of}
use Rattle.spec_change.specs.Change as spec
use Rattle.spec_change.specs.Change.{passed, sibling_labels}
use Rattle.xt_edit.specs.declared.change.Change.{Change}
use Rattle.xt_edit.specs.declared.change.Way.{Way}
use Rattle.xt_edit.specs.declared.change.Rests as code
use Rattle.xt_tree.specs.declared.node.Node.{Node}
use Rattle.spec_node.specs.declared.node_ref.NodeId.{NodeId}
use Rattle.xt_tree.specs.View.{tree_of, forest_of}

abbrev pub numbers_in : List NodeId → List ℕ
numbers_in ids = map (λ id. id.number) ids

abbrev pub change_in : Change → spec.Change
change_in change = record {
  of_attributes = change.of_attributes;
  node = change.node.number;
  above = numbers_in change.above.items;
  before = numbers_in change.before.items;
  after = numbers_in change.after.items;
  gone = numbers_in change.gone.items;
  brought = numbers_in change.brought.items;
}

-- a node, with the numbers of those above it, the root first, and the nodes directly below it
pub record WayTo : Type 0 where
  pub node : ℕ
  pub above : List ℕ
  pub children : Forest ℕ

abbrev pub way_in : Way → WayTo
way_in way = record { node = way.node.number; above = numbers_in way.above.items; children = forest_of way.children.now }

abbrev pub way_at : Document ℕ → List ℕ → Option WayTo
way_at document path =
    option_map (λ node. record { node = node.label; above = passed path (root_of document); children = node.children }) (node_at document path)

-- what is left of two lists
pub record Rests (X : Type 0) : Type 0 where
  pub old : List X
  pub new : List X

-- without those at their front that have the same numbers in both
abbrev pub past_common : {X : Type 0} → (X → ℕ) → (old new : List X) → Rests X
past_common number [] new = record { old = []; new = new }
past_common number (x ∷ old) [] = record { old = x ∷ old; new = [] }
past_common number (x ∷ old) (y ∷ new) = if number x == number y then past_common number old new else record { old = x ∷ old; new = y ∷ new }

-- each the other way round
abbrev pub reversed : {X : Type 0} → Rests X → Rests X
reversed rests = record { old = reverse rests.old; new = reverse rests.new }

-- without those at their end that have the same numbers in both
abbrev pub before_common : {X : Type 0} → (X → ℕ) → Rests X → Rests X
before_common number rests = reversed (past_common number (reverse rests.old) (reverse rests.new))

abbrev pub differing : {X : Type 0} → (X → ℕ) → (old new : List X) → Rests X
differing number old new = before_common number (past_common number old new)

abbrev pub rests_in : code.Rests → Rests (Rc Node Global)
rests_in rests = record { old = rests.old.now; new = rests.new.now }

-- a node that is shared
abbrev pub number_of : Rc Node Global → ℕ
number_of node = (tree_of node.value).number

-- the change of the node of this number, below these, whose children were the old ones and are the new ones
abbrev pub change_among : Bool → (node : ℕ) → (above : List ℕ) → (old new : List (Rc Node Global)) → spec.Change
change_among of_attributes node above old new =
    let rests = differing number_of old new in
    record {
      of_attributes = of_attributes;
      node = node;
      above = above;
      before = sibling_labels (forest_of old);
      after = sibling_labels (forest_of new);
      gone = labels (forest_of rests.old);
      brought = labels (forest_of rests.new);
    }
