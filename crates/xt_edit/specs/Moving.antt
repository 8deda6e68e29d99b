-- Where a move takes a node from and to.
use Rattle.std.specs.Prelude.{ℕ, ◌≡◌, ◌-◌, ◌++◌, IsTrue, List, Some, Result, Ok, Err}
use Rattle.std.specs.Option.{ForSome}
use Rattle.spec_document.specs.declared.parent.Parent.{Parent}
use Rattle.spec_document.specs.Fault.{Fault, least}
use Rattle.spec_document.specs.Forest.{Document, Forest, Empty, Node as Tree}
use Rattle.spec_document.specs.Place.{Found, node_at}
use Rattle.spec_edit.specs.Edit.{Edited, is_position}
use Rattle.spec_edit.specs.Splice as spec
use Rattle.spec_edit.specs.Splice.{sibling_count}
use Rattle.spec_move.specs.Move.{carried, moved_below, origin_faults, parent_faults, path_below, rearranged, target_faults}
use Rattle.xt_base.specs.declared.codes.EditCode.{EditCode}
use Rattle.xt_edit.specs.Changed.{with_children}
use Rattle.xt_edit.specs.Finding.{fault_of}
use Rattle.xt_edit.specs.Inserted.{IsParent}
use Rattle.xt_edit.specs.Seam.{put_in}
use Rattle.xt_edit.specs.Site.{IsAt, IsThere, outer_of, spot_in}
use Rattle.xt_edit.specs.declared.relocation.Ends.{Ends}
use Rattle.xt_edit.specs.declared.relocation.Target.{Target}
use Rattle.xt_edit.specs.declared.site.Site.{Site}
use Rattle.xt_tree.specs.declared.node.Node.{Node}
use Rattle.xt_tree.specs.View.{tree_of}

-- of these faults, all at no line of a body, this is the least
abbrev pub IsLeast : EditCode → List Fault → Type 0
IsLeast code faults = Some (fault_of code) ≡ least faults

-- the node at the path, or the fault of that path
abbrev pub IsOrigin : Document ℕ → List ℕ → Result Site EditCode → Type 0
IsOrigin document path (Ok site) = IsAt document path (spot_in site.spot) site.node.now
IsOrigin document path (Err code) = IsLeast code (origin_faults document path)

-- what stands above a node that comes to this spot, or the fault of the spot
abbrev pub IsTarget : Document ℕ → spec.Spot → Result Parent EditCode → Type 0
IsTarget document spot (Ok parent) = IsParent document spot parent
IsTarget document spot (Err code) = IsLeast code (parent_faults spot (node_at document spot.above))

-- where the path leads nodes to, or its fault
pub record IsAtTarget (document : Document ℕ) (path : List ℕ) (target : Target) : Type 0 where
  pub is : spec.spot_of path ≡ Some (spot_in target.spot)
  pub parent : IsParent document (spot_in target.spot) target.parent

abbrev pub IsTargetOf : Document ℕ → List ℕ → Result Target EditCode → Type 0
IsTargetOf document path (Ok target) = IsAtTarget document path target
IsTargetOf document path (Err code) = IsLeast code (target_faults document (spec.spot_of path))

-- the node at the first path, and where the second leads
pub record AreAt (document : Document ℕ) (path other : List ℕ) (ends : Ends) : Type 0 where
  pub from : IsAt document path (spot_in ends.site.spot) ends.site.node.now
  pub to : IsAtTarget document other ends.to

-- both, or the least fault of both paths
abbrev pub AreEnds : Document ℕ → (path other : List ℕ) → Result Ends EditCode → Type 0
AreEnds document path other (Ok ends) = AreAt document path other ends
AreEnds document path other (Err code) = IsLeast code (origin_faults document path ++ target_faults document (spec.spot_of other))

-- the node alone, with what is below it
abbrev pub tree_in : Node → Forest ℕ
tree_in node = Tree (tree_of node).number (tree_of node).content (tree_of node).children Empty

-- the parents before and after
abbrev pub old_parent : Document ℕ → Ends → Found ℕ
old_parent document ends = outer_of document (spot_in ends.site.spot)

abbrev pub new_parent : Document ℕ → Ends → Found ℕ
new_parent document ends = outer_of document (spot_in ends.to.spot)

-- the position is that of a child of the node above this spot, or the one after the last
abbrev pub HasPosition : Document ℕ → spec.Spot → (position : ℕ) → Type 0
HasPosition document spot position = ForSome (node_at document spot.above) (λ node. IsTrue (is_position position node.children))

-- the document in which the node stands elsewhere below its parent
abbrev pub moved_within : Document ℕ → Site → (position : ℕ) → Document ℕ
moved_within document site position =
    with_children (rearranged (site.spot.position - 1) (position - 1) (tree_in site.node.now)) site.spot.parent.now document

-- the document in which these nodes stand below another parent in place of the node
abbrev pub carried_in : Document ℕ → Ends → Forest ℕ → Document ℕ
carried_in document ends nodes =
    record { root = document.root; nodes = carried (spot_in ends.site.spot) (spot_in ends.to.spot) (old_parent document ends) nodes document }

-- the same from the document without the node, where there are so many fewer siblings where it stood
abbrev pub put_there_in : Document ℕ → Ends → (fewer : ℕ) → Forest ℕ → Document ℕ
put_there_in left ends fewer nodes =
    let index = ends.to.spot.position - 1 in
    with_children (put_in index index nodes) (path_below ends.site.spot.parent.now ends.site.spot.position fewer ends.to.spot.parent.now) left

-- by how many children there are fewer below the node that these positions lead to in both documents
abbrev pub IsFewerBy : Document ℕ → Document ℕ → List ℕ → ℕ → Type 0
IsFewerBy document left path fewer =
    ForSome (node_at document path) (λ before. ForSome (node_at left path) (λ after. fewer ≡ sibling_count before.children - sibling_count after.children))

-- the answer of a move to another parent
abbrev pub moved_in : ℕ → Document ℕ → Ends → Result (Edited ℕ) Fault
moved_in first document ends =
    moved_below (λ nodes. nodes) first (spot_in ends.site.spot) (spot_in ends.to.spot) document (old_parent document ends) (new_parent document ends)
    (tree_in ends.site.node.now) ends.to.parent

-- the node stands at its spot, and it comes below a node of the document
pub record Stand (document : Document ℕ) (ends : Ends) : Type 0 where
  pub from : IsThere document (spot_in ends.site.spot) ends.site.node.now
  pub to : IsParent document (spot_in ends.to.spot) ends.to.parent
