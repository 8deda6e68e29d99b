-- What a deletion is at the node there.
use Rattle.std.proofs.Common.{◌≡◌, ℕ, ◌-◌, false, cond, List, ap, ◌∙◌}
use Rattle.std.specs.Prelude.{Ok}
use Rattle.spec_document.specs.Forest.{Document}
use Rattle.spec_edit.specs.Edit.{Delete, Edited, edited_nodes, deletes, is_document_element, refused}
use Rattle.spec_edit.specs.Splice.{Spot, children_changed, deleted}
use Rattle.xt_edit.specs.Site.{IsAt, found_there}
use Rattle.xt_edit.proofs.Sites.{at_site}
use Rattle.xt_tree.specs.declared.node.Node.{Node}
use Rattle.xt_tree.specs.View.{tree_of}

abbrev pub without : Document ℕ → Spot → Edited ℕ
without document spot = record { nodes = children_changed (deleted (spot.position - 1)) spot.above document.nodes; made = 0 }

pub deleted-is : (first : ℕ) (document : Document ℕ) (path : List ℕ) (spot : Spot) (node : Node) → IsAt document path spot node
    → is_document_element (found_there document spot node) (tree_of node).content ≡ false
    → edited_nodes first (Delete path) document ≡ Ok (without document spot)
deleted-is first document path spot node at stays =
    at_site document path spot node (λ s. deletes s document) at ∙ ap (λ b. cond b (refused 9) (Ok (without document spot))) stays
