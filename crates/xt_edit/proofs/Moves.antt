-- What a move is at the node there: its refusals, and the document afterwards by where the node comes to.
use Rattle.std.proofs.Common.{◌≡◌, ◌≢◌, ℕ, true, false, cond, List, [], ◌∷◌, ◌++◌, ap, sym, ◌∙◌, arith, Option, None, Some, length}
use Rattle.std.specs.Prelude.{Result, Ok, Err, is_none, not}
use Rattle.std.specs.Option.{unwrap_or}
use Rattle.std.proofs.lemmas.Slice.Eq.{bytes_eq-Decides}
use Rattle.spec_document.specs.declared.parent.Parent.{Parent}
use Rattle.spec_document.specs.Fault.{Fault, fault_if, least, answer_of}
use Rattle.spec_document.specs.Forest.{Content, Document, Forest}
use Rattle.spec_document.specs.Place.{Found, root_of, node_at}
use Rattle.spec_edit.specs.Edit.{Edited, at_spot, by_node, parent_by, refused}
use Rattle.spec_edit.specs.Splice.{Spot, spot_of}
use Rattle.spec_move.specs.Move.{goes_through, is_path, moved_at, moved_between, moved_from, moved_nodes, moved_there, origin_faults, parent_faults}
use Rattle.spec_move.specs.Move.{position_faults, target_faults, tree_of}
use Rattle.xt_base.specs.declared.codes.EditCode.{EditCode}
use Rattle.xt_edit.specs.Finding.{fault_of}
use Rattle.xt_edit.specs.Inserted.{IsParent}
use Rattle.xt_edit.specs.Moving.{AreAt, IsAtTarget, IsLeast, Stand, moved_in, moved_within, new_parent, old_parent, tree_in}
use Rattle.xt_edit.specs.Site.{IsAt, outer_of, spot_in}
use Rattle.xt_edit.specs.View.{Edits}
use Rattle.xt_edit.specs.declared.fault.EditFault.TheVariants as faults
use Rattle.xt_edit.specs.declared.relocation.Ends.{Ends}
use Rattle.xt_edit.specs.declared.relocation.Target.{Target}
use Rattle.xt_edit.proofs.Renewed.{faulted, some_is}
use Rattle.xt_edit.proofs.Sites.{depth_of-from, path_of-spot}
use Rattle.xt_tree.specs.declared.node.Node.{Node}

-- ---- Refusals for paths

refused_by : (code : EditCode) (number : ℕ) → Some (fault_of code) ≡ Some (record { number = number; line = 0 })
    → refused {L = ℕ} number ≡ Err (fault_of code)
refused_by code number e = ap (λ f. Err f) (sym (some_is (fault_of code) (record { number = number; line = 0 }) e))

by_found : (code : EditCode) (change : Found ℕ → Content → Result (Edited ℕ) Fault) (o : Option (Found ℕ))
    → Some (fault_of code) ≡ least (fault_if (is_none o) 6 0) → by_node change o ≡ Err (fault_of code)
by_found code change None e = refused_by code 6 e
by_found code change (Some x) e = absurd (cc)

-- the fault of the path of a node is answered in place of any change there
pub origin_refused : (document : Document ℕ) (path : List ℕ) (code : EditCode) → IsLeast code (origin_faults document path)
    → (first : ℕ) (change : Spot → Found ℕ → Content → Result (Edited ℕ) Fault)
    → Edits document first (Err (faults.Refused code 0)) (at_spot path (λ spot. by_node (change spot) (node_at document path)))
origin_refused document [] code e first change = refused_by code 7 e
origin_refused document (p ∷ ps) code e first change = by_found code _ (node_at document (p ∷ ps)) e

-- that of either path in place of the move
pub paths_refused : (document : Document ℕ) (path other : List ℕ) (code : EditCode)
    → IsLeast code (origin_faults document path ++ target_faults document (spot_of other))
    → (first : ℕ) → Edits document first (Err (faults.Refused code 0)) (moved_nodes first path other document)
paths_refused document path other code e first =
    faulted (origin_faults document path ++ target_faults document (spot_of other))
    (cond (is_path path other) (Ok (record { nodes = document.nodes; made = 0 })) (moved_there (λ nodes. nodes) first path other document))
    (fault_of code) e

-- ---- Paths without a fault

pub origin_none : (document : Document ℕ) (path : List ℕ) (spot : Spot) (node : Node) → IsAt document path spot node → origin_faults document path ≡ []
origin_none document [] spot node at = absurd (let e = at.spot_is in cc)
origin_none document (p ∷ ps) spot node at = ap (λ o. fault_if (is_none o) 6 0) at.found

pub target_none : (document : Document ℕ) (path : List ℕ) (target : Target) → IsAtTarget document path target
    → target_faults document (spot_of path) ≡ []
target_none document path target at =
    let spot = spot_in target.spot in
    let p = at.parent in
    ap (target_faults document) at.is ∙ ap (parent_faults spot) p.at ∙ ap (position_faults spot p.outer) p.is
    ∙ ap (λ b. fault_if (not b) 6 0) p.position

-- the parent is what stands there
pub parent-is : (document : Document ℕ) (spot : Spot) (parent : Parent) (p : IsParent document spot parent) → outer_of document spot ≡ p.outer
parent-is document spot parent p = ap (λ o. unwrap_or o (root_of document)) p.at

pub parent-at : (document : Document ℕ) (spot : Spot) (parent : Parent) → IsParent document spot parent
    → node_at document spot.above ≡ Some (outer_of document spot)
parent-at document spot parent p = p.at ∙ ap (λ x. Some x) (sym (parent-is document spot parent p))

pub parent-depth : (document : Document ℕ) (spot : Spot) (parent : Parent) → IsParent document spot parent
    → length (outer_of document spot).above ≡ length spot.above
parent-depth document spot parent p =
    let all = depth_of-from spot.above (root_of document) (outer_of document spot) (parent-at document spot parent p) in omega (arith, all)

module _ (first : ℕ) (document : Document ℕ) (path other : List ℕ) (ends : Ends) (at : AreAt document path other ends) where
  abbrev from : Spot
  from = spot_in ends.site.spot

  abbrev to : Spot
  to = spot_in ends.to.spot

  abbrev node : Node
  node = ends.site.node.now

  abbrev same : Forest ℕ → Forest ℕ
  same nodes = nodes

  abbrev still : Result (Edited ℕ) Fault
  still = Ok (record { nodes = document.nodes; made = 0 })

  unfaulted : moved_nodes first path other document ≡ cond (is_path path other) still (moved_there same first path other document)
  unfaulted =
      λ i. answer_of (origin_none document path from node at.from i ++ target_none document other ends.to at.to i)
      (cond (is_path path other) still (moved_there same first path other document))

  pub still-is : is_path path other ≡ true → moved_nodes first path other document ≡ still
  still-is e = unfaulted ∙ ap (λ b. cond b still (moved_there same first path other document)) e

  abbrev change : Spot → Spot → Found ℕ → Content → Result (Edited ℕ) Fault
  change f t x content = moved_at same first path f t document (tree_of x content)

  there : is_path path other ≡ false → moved_nodes first path other document ≡ moved_at same first path from to document (tree_in node)
  there e =
      unfaulted ∙ ap (λ b. cond b still (moved_there same first path other document)) e
      ∙ ap (λ o. elim o [
        | None ↦ refused 7
        | Some f ↦ at_spot other (λ t. by_node (change f t) (node_at document path))
      ]) at.from.spot_is
      ∙ ap (λ o. elim o [ None ↦ refused 7 | Some t ↦ by_node (change from t) (node_at document path) ]) at.to.is
      ∙ ap (by_node (change from to)) at.from.found

  pub within-is : is_path path other ≡ false → is_path from.above to.above ≡ true
      → moved_nodes first path other document ≡ Ok (record { nodes = (moved_within document ends.site ends.to.spot.position).nodes; made = 0 })
  within-is e same_way =
      there e
      ∙ ap (λ b. cond b (Ok (record { nodes = (moved_within document ends.site ends.to.spot.position).nodes; made = 0 }))
      (moved_from same first path from to document (tree_in node) (node_at document from.above) (node_at document to.above))) same_way

  parents : is_path path other ≡ false → is_path from.above to.above ≡ false
      → moved_nodes first path other document ≡ cond (goes_through to.above path) (refused 15) (moved_in first document ends)
  parents e other_way =
      let p = at.to.parent in
      let is = parent-is document to ends.to.parent p in
      there e
      ∙ ap (λ b. cond b (Ok (record { nodes = (moved_within document ends.site ends.to.spot.position).nodes; made = 0 }))
      (moved_from same first path from to document (tree_in node) (node_at document from.above) (node_at document to.above))) other_way
      ∙ (λ i. moved_from same first path from to document (tree_in node) (at.from.there.parent i) ((p.at ∙ ap (λ x. Some x) (sym is)) i))
      ∙ ap (moved_between same first path from to document (old_parent document ends) (new_parent document ends) (tree_in node))
      (ap (λ x. parent_by x.content x) is ∙ p.is)

  pub below_itself : is_path path other ≡ false → is_path from.above to.above ≡ false → goes_through to.above path ≡ true
      → moved_nodes first path other document ≡ refused 15
  below_itself e other_way through =
      parents e other_way ∙ ap (λ b. cond b (refused 15) (moved_in first document ends)) through

  pub another-is : is_path path other ≡ false → is_path from.above to.above ≡ false → goes_through to.above path ≡ false
      → moved_nodes first path other document ≡ moved_in first document ends
  another-is e other_way apart = parents e other_way ∙ ap (λ b. cond b (refused 15) (moved_in first document ends)) apart

-- below one parent different paths end differently
pub apart-is : (document : Document ℕ) (path other : List ℕ) (ends : Ends) → AreAt document path other ends → is_path path other ≡ false
    → is_path ends.site.spot.parent.now ends.to.spot.parent.now ≡ true → ends.to.spot.position ≢ ends.site.spot.position
apart-is document path other ends at e same_way same =
    let above = (bytes_eq-Decides ends.site.spot.parent.now ends.to.spot.parent.now).0 same_way in
    let is : path ≡ other =
    path_of-spot path (spot_in ends.site.spot) at.from.spot_is ∙ (λ i. above i ++ sym same i ∷ []) ∙ sym (path_of-spot other (spot_in ends.to.spot) at.to.is) in
    let both : true ≡ false = sym ((bytes_eq-Decides path other).1 is) ∙ e in
    cc

pub stand : (document : Document ℕ) (path other : List ℕ) (ends : Ends) → AreAt document path other ends → Stand document ends
stand document path other ends at = record { from = at.from.there; to = at.to.parent }
