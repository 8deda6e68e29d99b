-- Where in a document an edit takes place.
use Rattle.std.specs.Prelude.{ℕ, ◌≡◌, List, length, Some, Result, Ok, Err}
use Rattle.std.specs.Option.{unwrap_or}
use Rattle.spec_document.specs.Fault.{Fault}
use Rattle.spec_document.specs.Forest.{Content, Document}
use Rattle.spec_document.specs.Place.{Found, root_of, found_in, child_at, node_at}
use Rattle.spec_edit.specs.Edit.{Edited, at_spot, by_node}
use Rattle.spec_edit.specs.Splice as spec
use Rattle.xt_edit.specs.declared.fault.EditFault.{EditFault}
use Rattle.xt_edit.specs.declared.site.Site.{Site}
use Rattle.xt_edit.specs.declared.site.Spot.{Spot}
use Rattle.xt_edit.specs.View.{Edits}
use Rattle.xt_tree.specs.declared.node.Node.{Node}
use Rattle.xt_tree.specs.View.{tree_of}

abbrev pub spot_in : Spot → spec.Spot
spot_in spot = record { above = spot.parent.now; position = spot.position }

-- the parent of what stands at this spot
abbrev pub outer_of : Document ℕ → spec.Spot → Found ℕ
outer_of document spot = unwrap_or (node_at document spot.above) (root_of document)

-- a node, where it stands below this parent, and where it stands at this spot
abbrev pub found_below : Found ℕ → Node → Found ℕ
found_below outer node = found_in outer.above (tree_of node).number (tree_of node).content (tree_of node).children

abbrev pub found_there : Document ℕ → spec.Spot → Node → Found ℕ
found_there document spot node = found_below (outer_of document spot) node

-- the node stands at this spot
pub record IsThere (document : Document ℕ) (spot : spec.Spot) (node : Node) : Type 0 where
  pub parent : node_at document spot.above ≡ Some (outer_of document spot)
  pub child : child_at (outer_of document spot).above (outer_of document spot).children spot.position ≡ Some (found_there document spot node)
  pub depth : length (outer_of document spot).above ≡ length spot.above

-- and the path leads to it
pub record IsAt (document : Document ℕ) (path : List ℕ) (spot : spec.Spot) (node : Node) : Type 0 where
  pub there : IsThere document spot node
  pub spot_is : spec.spot_of path ≡ Some spot
  pub found : node_at document path ≡ Some (found_there document spot node)

-- the node at the path, or what is answered in place of any change of it
abbrev pub IsSite : Document ℕ → List ℕ → Result Site EditFault → Type 0
IsSite document path (Ok site) = IsAt document path (spot_in site.spot) site.node.now
IsSite document path (Err fault) =
    (first : ℕ) (change : spec.Spot → Found ℕ → Content → Result (Edited ℕ) Fault)
    → Edits document first (Err fault) (at_spot path (λ spot. by_node (change spot) (node_at document path)))
