-- What a document becomes at a site.
use Rattle.std.specs.Prelude.{ℕ, ◌-◌, List, Result}
use Rattle.spec_document.specs.Fault.{Fault}
use Rattle.spec_document.specs.Forest.{Content, Document, Forest}
use Rattle.spec_document.specs.Place.{Found}
use Rattle.spec_edit.specs.Edit.{Edited, attributes_changed, renewed, with_element}
use Rattle.spec_edit.specs.Splice.{children_changed, deleted}
use Rattle.xt_edit.specs.declared.site.Site.{Site}
use Rattle.xt_edit.specs.Site.{found_there, spot_in}
use Rattle.xt_edit.specs.Valued.{nodes_valued, valued}
use Rattle.xt_tree.specs.View.{tree_of}

-- the document with the children of the node at these positions changed so
abbrev pub with_children : (Forest ℕ → Forest ℕ) → List ℕ → Document ℕ → Document ℕ
with_children change parent document = record { root = document.root; nodes = children_changed change parent document.nodes }

abbrev pub taken_out : Document ℕ → Site → Document ℕ
taken_out document site = with_children (deleted (site.spot.position - 1)) site.spot.parent.now document

abbrev pub valued_at : Document ℕ → Site → List ℕ → Document ℕ
valued_at document site value =
    record { root = document.root; nodes = nodes_valued (spot_in site.spot) document (valued (tree_of site.node.now).content value) }

-- the node there with what stands above it
abbrev pub found_at : Document ℕ → Site → Found ℕ
found_at document site = found_there document (spot_in site.spot) site.node.now

-- the answer where the node there is made anew with this content, where it has this content and stays, and where what is written under this name
-- says which of the two
abbrev pub renewed_at : ℕ → Document ℕ → Site → Content → Result (Edited ℕ) Fault
renewed_at first document site content = renewed (λ nodes. nodes) first (spot_in site.spot) document (found_at document site) content

abbrev pub stayed_at : Document ℕ → Site → Content → Result (Edited ℕ) Fault
stayed_at document site content = with_element (spot_in site.spot) document (found_at document site) content

abbrev pub changed_at : ℕ → Document ℕ → Site → (written : List ℕ) → Content → Result (Edited ℕ) Fault
changed_at first document site written content =
    attributes_changed (λ nodes. nodes) first (spot_in site.spot) document (found_at document site) written content
