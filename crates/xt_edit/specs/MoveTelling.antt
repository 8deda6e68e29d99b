-- What the code tells of a move.
use Rattle.std.specs.Prelude.{ℕ, ◌≡◌, false, List, [], Option}
use Rattle.std.specs.declared.rc.Rc.{Rc}
use Rattle.std.specs.declared.alloc.Global.{Global}
use Rattle.std.specs.Option.{ForSome}
use Rattle.spec_document.specs.Forest.{Forest, Node as Tree, Document, labels}
use Rattle.spec_document.specs.Place.{node_at}
use Rattle.spec_change.specs.Change.{Change, sibling_labels, without}
use Rattle.spec_move.specs.Changed as spec
use Rattle.spec_move.specs.Changed.{changes_between}
use Rattle.spec_move.specs.Move.{path_without}
use Rattle.spec_node.specs.declared.node_ref.NodeId.{NodeId}
use Rattle.xt_edit.specs.Changed.{taken_out}
use Rattle.xt_edit.specs.Moving.{old_parent}
use Rattle.xt_edit.specs.Reordered.{IsReordered, gone_among}
use Rattle.xt_edit.specs.Site.{spot_in}
use Rattle.xt_edit.specs.Telling.{change_in, differing, number_of}
use Rattle.xt_edit.specs.declared.move_change.MoveChange.{MoveChange}
use Rattle.xt_edit.specs.declared.move_change.MoveChange.TheVariants as code
use Rattle.xt_edit.specs.declared.relocation.Ends.{Ends}
use Rattle.xt_tree.specs.declared.node.Node.{Node}
use Rattle.xt_tree.specs.View.{forest_of, tree_of}

abbrev pub move_change_in : MoveChange → spec.MoveChange
move_change_in (code.InOrder change) = spec.in_order (change_in change)
move_change_in (code.Between left entered) = spec.between (change_in left) (change_in entered)

abbrev pub number_in : NodeId → ℕ
number_in id = id.number

-- a node that is shared, before siblings
abbrev pub node_before : Rc Node Global → Forest ℕ → Forest ℕ
node_before node behind = Tree (tree_of node.value).number (tree_of node.value).content (tree_of node.value).children behind

-- the change of the node of this number, below these, of whose children the one that moved stands elsewhere
abbrev pub reordered_among : (node : ℕ) → (above : List ℕ) → (moved : ℕ) → (old new : Forest ℕ) → Change
reordered_among node above moved old new = record {
  of_attributes = false;
  node = node;
  above = above;
  before = sibling_labels old;
  after = sibling_labels new;
  gone = gone_among moved (sibling_labels new) old;
  brought = [];
}

-- the children of the node that the path leads to are told so
abbrev pub AreReorderedAt : (moved : ℕ) → (old new : Document ℕ) → List ℕ → Type 0
AreReorderedAt moved old new path =
    ForSome (node_at old path) (λ was. ForSome (node_at new path) (λ now. IsReordered moved was.children now.children))

-- of these children those that differ are the ones that are gone and brought
abbrev pub AreTold : (old new : Forest ℕ) → Type 0
AreTold old new =
    (xs ys : List (Rc Node Global)) → forest_of xs ≡ old → forest_of ys ≡ new
    → (labels (forest_of (differing number_of xs ys).old) ≡ without (labels new) (labels old))
    × (labels (forest_of (differing number_of xs ys).new) ≡ without (labels old) (labels new))

abbrev pub AreToldAt : (old new : Document ℕ) → List ℕ → Type 0
AreToldAt old new path = ForSome (node_at old path) (λ was. ForSome (node_at new path) (λ now. AreTold was.children now.children))

-- the way to the new parent, once the node was taken away
abbrev pub way_to_new : Document ℕ → Ends → List ℕ
way_to_new old ends = path_without (spot_in ends.site.spot) (old_parent old ends) ends.to.spot.parent.now

-- both changes of a move to another parent are told so
pub record AreToldBetween (old : Document ℕ) (ends : Ends) (new : Document ℕ) : Type 0 where
  pub leaves : AreToldAt old (taken_out old ends.site) ends.site.spot.parent.now
  pub enters : AreToldAt (taken_out old ends.site) new (way_to_new old ends)

abbrev pub between_in : Document ℕ → Ends → Document ℕ → Option spec.MoveChange
between_in old ends new = changes_between (spot_in ends.site.spot) (spot_in ends.to.spot) old new (old_parent old ends)
