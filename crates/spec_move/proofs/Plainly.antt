-- Moves change places alone: with the labels forgotten, a move is that of the plain document.
use Rattle.std.proofs.Common.{◌≡◌, ℕ, ◌+◌, ◌-◌, Bool, true, false, not, cond, List, [], ◌∷◌, ◌++◌, Option, None, Some, refl, sym, ap, ◌∙◌, map}
use Rattle.std.specs.Prelude.{Result, Ok, Err, nat_lt, nat_le, ◌&&◌, is_none}
use Rattle.std.specs.Option.{option_map}
use Rattle.spec_document.specs.declared.parent.Parent.{Parent}
use Rattle.spec_document.specs.declared.parent.Parent.TheVariants as parents
use Rattle.spec_document.specs.Forest.{Content, Element, Text, Comment, Instruction, Plain, Forest, Empty, Node, Document, plain, labels, numbered}
use Rattle.spec_document.specs.Place.{Found, node_at, scope_at}
use Rattle.spec_document.specs.Fault.{Fault, answer_of, least, fault_if}
use Rattle.spec_document.specs.Balance.{alone}
use Rattle.spec_document.specs.NodeFaults.{node_faults, greatest_depth}
use Rattle.spec_document.specs.Numbering.{number_faults}
use Rattle.spec_document.specs.Top.{top_faults, kept, without_texts}
use Rattle.spec_document.specs.Document.{elements_beside}
use Rattle.spec_document.proofs.Written.{plain_itself}
use Rattle.spec_edit.specs.Splice.{Spot, spot_of, spot_from, first_siblings, later_siblings, met, inserted, deleted, children_changed, sibling_count}
use Rattle.spec_edit.specs.Edit.{Edited, refused, without_labels, without_lines, depth_of, by_content, by_node, at_spot, parent_by}
use Rattle.spec_edit.proofs.Labels.{plain-if, plain-first, plain-later, plain-met, plain-inserted, plain-deleted, plain-changed}
use Rattle.spec_edit.proofs.Labels.{plain-count, plain-elements}
use Rattle.spec_edit.proofs.Labels.{plain_document, plain_found, plain-node}
use Rattle.spec_edit.proofs.Numbers.{size-plain}
use Rattle.spec_edit.proofs.Depths.{height-plain}
use Rattle.spec_move.specs.Move.{is_path, goes_through, origin_faults, position_faults, parent_faults, target_faults, keeps_labels}
use Rattle.spec_move.specs.Move.{put_in, siblings_between, rearranged, path_below, fewer_by, path_without, carried, tree_of, move_faults}
use Rattle.spec_move.specs.Move.{placed, with_placed, moved_below, moved_between, moved_from, moved_at, moved_there, moved, moved_nodes, moved_plain}

-- ---- Siblings in another order

plain-put_in : {L : Type 0} (from to : ℕ) (others siblings : Forest L)
    → plain (put_in from to others siblings) ≡ put_in from to (plain others) (plain siblings)
plain-put_in from to others siblings =
    plain-met (first_siblings from siblings) (met others (later_siblings to siblings))
    ∙ (λ i. met (plain-first from siblings i) (plain-met others (later_siblings to siblings) i))
    ∙ ap (λ (t : Plain). met (first_siblings from (plain siblings)) (met (plain others) t)) (plain-later to siblings)

plain-between : {L : Type 0} (from to : ℕ) (siblings : Forest L)
    → plain (siblings_between from to siblings) ≡ siblings_between from to (plain siblings)
plain-between from to siblings =
    plain-first (to - from) (later_siblings from siblings) ∙ ap (first_siblings (to - from)) (plain-later from siblings)

plain-rearranged : {L : Type 0} (from to : ℕ) (nodes siblings : Forest L)
    → plain (rearranged from to nodes siblings) ≡ rearranged from to (plain nodes) (plain siblings)
plain-rearranged from to nodes siblings =
    let later = siblings_between (from + 1) to siblings in
    let earlier = siblings_between to from siblings in
    plain-if (nat_lt from to) (put_in from to (met later nodes) siblings) (put_in to (from + 1) (met nodes earlier) siblings)
    ∙ (λ i. cond (nat_lt from to) (plain-put_in from to (met later nodes) siblings i) (plain-put_in to (from + 1) (met nodes earlier) siblings i))
    ∙ (λ i. cond (nat_lt from to) (put_in from to (plain-met later nodes i) (plain siblings))
    (put_in to (from + 1) (plain-met nodes earlier i) (plain siblings)))
    ∙ (λ i. cond (nat_lt from to) (put_in from to (met (plain-between (from + 1) to siblings i) (plain nodes)) (plain siblings))
    (put_in to (from + 1) (met (plain nodes) (plain-between to from siblings i)) (plain siblings)))

-- ---- To another parent

plain-fewer : {L : Type 0} (position : ℕ) (siblings : Forest L) → fewer_by position siblings ≡ fewer_by position (plain siblings)
plain-fewer position siblings =
    let gone : sibling_count (deleted (position - 1) siblings) ≡ sibling_count (deleted (position - 1) (plain siblings)) =
    sym (plain-count (deleted (position - 1) siblings)) ∙ ap sibling_count (plain-deleted (position - 1) siblings) in
    λ i. sym (plain-count siblings) i - gone i

plain-path : {L : Type 0} (from : Spot) (old : Found L) (path : List ℕ) → path_without from old path ≡ path_without from (plain_found old) path
plain-path from old path = ap (λ n. path_below from.above from.position n path) (plain-fewer from.position old.children)

plain-carried : {L : Type 0} (from to : Spot) (old : Found L) (nodes : Forest L) (document : Document L)
    → plain (carried from to old nodes document) ≡ carried from to (plain_found old) (plain nodes) (plain_document document)
plain-carried from to old nodes document =
    plain-changed (inserted (to.position - 1) nodes) (inserted (to.position - 1) (plain nodes)) (plain-inserted (to.position - 1) nodes)
    (path_without from old to.above) (children_changed (deleted (from.position - 1)) from.above document.nodes)
    ∙ (λ i. children_changed (inserted (to.position - 1) (plain nodes)) (plain-path from old to.above i)
    (plain-changed (deleted (from.position - 1)) (deleted (from.position - 1)) (plain-deleted (from.position - 1)) from.above document.nodes i))

-- ---- Faults

plain-parent : {L : Type 0} (content : Option Content) (node : Found L) → parent_by content node ≡ parent_by content (plain_found node)
plain-parent None node = ap (λ n. Some (parents.Root n)) (sym (plain-elements node.children))
plain-parent (Some content) node = refl

none-mapped : {A B : Type 0} (f : A → B) (o : Option A) → is_none (option_map f o) ≡ is_none o
none-mapped f None = refl
none-mapped f (Some x) = refl

plain-origin : {L : Type 0} (document : Document L) (path : List ℕ) → origin_faults document path ≡ origin_faults (plain_document document) path
plain-origin document [] = refl
plain-origin document (p ∷ ps) =
    ap (λ b. fault_if b 6 0) (sym (none-mapped plain_found (node_at document (p ∷ ps))) ∙ ap is_none (plain-node document (p ∷ ps)))

plain-position : {L : Type 0} (spot : Spot) (node : Found L) (parent : Option Parent)
    → position_faults spot node parent ≡ position_faults spot (plain_found node) parent
plain-position spot node None = refl
plain-position spot node (Some parent) =
    ap (λ n. fault_if (not (nat_le 1 spot.position && nat_le spot.position (n + 1))) 6 0) (sym (plain-count node.children))

plain-parent_faults : {L : Type 0} (spot : Spot) (found : Option (Found L))
    → parent_faults spot found ≡ parent_faults spot (option_map plain_found found)
plain-parent_faults spot None = refl
plain-parent_faults spot (Some node) =
    plain-position spot node (parent_by node.content node) ∙ ap (position_faults spot (plain_found node)) (plain-parent node.content node)

plain-target : {L : Type 0} (document : Document L) (spot : Option Spot) → target_faults document spot ≡ target_faults (plain_document document) spot
plain-target document None = refl
plain-target document (Some spot) =
    plain-parent_faults spot (node_at document spot.above) ∙ ap (parent_faults spot) (plain-node document spot.above)

pub without-plain : {L : Type 0} (f : Forest L) → without_lines f ≡ without_lines (plain f)
without-plain Empty = refl
without-plain (Node l c f s) = λ i. Node (alone 0) c (without-plain f i) (without-plain s i)

plain-move_faults : {L : Type 0} (keeps : Bool) (first : ℕ) (beside : Option ℕ) (new : Found L) (tree : Forest L)
    → move_faults keeps first beside new tree ≡ move_faults keeps first beside (plain_found new) (plain tree)
plain-move_faults keeps first beside new tree =
    λ i. top_faults beside (without-plain tree i)
    ++ node_faults (scope_at new) (depth_of new + 1) (without-plain tree i)
    ++ fault_if (nat_lt (greatest_depth + 1) (depth_of new + sym (height-plain tree) i)) 11 0
    ++ cond keeps [] (number_faults first (map (λ l. l.first) (labels (kept beside (without-plain tree i)))))

-- ---- What is put in

plain-without_texts : {L : Type 0} (f : Forest L) → plain (without_texts f) ≡ without_texts (plain f)
plain-without_texts Empty = refl
plain-without_texts (Node l (Element n a) f s) = ap (Node tt (Element n a) (plain f)) (plain-without_texts s)
plain-without_texts (Node l (Text t) f s) = plain-without_texts s
plain-without_texts (Node l (Comment t) f s) = ap (Node tt (Comment t) (plain f)) (plain-without_texts s)
plain-without_texts (Node l (Instruction n t) f s) = ap (Node tt (Instruction n t) (plain f)) (plain-without_texts s)

plain-kept : {L : Type 0} (beside : Option ℕ) (f : Forest L) → plain (kept beside f) ≡ kept beside (plain f)
plain-kept None f = refl
plain-kept (Some others) f = plain-without_texts f

-- ---- Moves

without-if : {L : Type 0} (b : Bool) (r q : Result (Edited L) Fault) → without_labels (cond b r q) ≡ cond b (without_labels r) (without_labels q)
without-if true r q = refl
without-if false r q = refl

without-answer : {L : Type 0} (faults : List Fault) (r : Result (Edited L) Fault)
    → without_labels (answer_of faults r) ≡ answer_of faults (without_labels r)
without-answer {L} faults r = by (least faults)
  where
    by : (o : Option Fault) → without_labels (elim o as (λ _. Result (Edited L) Fault) [ None ↦ r | Some fault ↦ Err fault ])
        ≡ elim o as (λ _. Result (Edited (Unit {0})) Fault) [ None ↦ without_labels r | Some fault ↦ Err fault ]
    by None = refl
    by (Some fault) = refl

abbrev plain_edit : {L : Type 0} → Edited L → Edited (Unit {0})
plain_edit new = record { nodes = plain new.nodes; made = new.made }

module _ {L : Type 0} (anew : Forest ℕ → Forest L) (same : (f : Forest ℕ) → plain (anew f) ≡ plain f) (document : Document L) where
  plain-placed : (keeps : Bool) (first : ℕ) (nodes : Forest L) → plain_edit (placed anew keeps first nodes) ≡ placed plain keeps first (plain nodes)
  plain-placed true first nodes = refl
  plain-placed false first nodes =
      let fresh = same (numbered first (plain nodes)) ∙ ap (λ (f : Plain). plain (numbered first f)) (sym (plain_itself (plain nodes))) in
      λ i. record { nodes = fresh i; made = sym (size-plain nodes) i }

  plain-with_placed : (from to : Spot) (old : Found L) (new : Edited L)
      → plain_edit (with_placed from to old document new) ≡ with_placed from to (plain_found old) (plain_document document) (plain_edit new)
  plain-with_placed from to old new = λ i. record { nodes = plain-carried from to old new.nodes document i; made = new.made }

  plain-below : (first : ℕ) (from to : Spot) (old new : Found L) (tree : Forest L) (parent : Parent)
      → without_labels (moved_below anew first from to document old new tree parent)
      ≡ moved_below plain first from to (plain_document document) (plain_found old) (plain_found new) (plain tree) parent
  plain-below first from to old new tree parent =
      let keeps = keeps_labels old new in
      let beside = elements_beside parent in
      let made = placed anew keeps first (kept beside tree) in
      without-answer (move_faults keeps first beside new tree) (Ok (with_placed from to old document made))
      ∙ (λ i. answer_of (plain-move_faults keeps first beside new tree i) (Ok (plain-with_placed from to old made i)))
      ∙ ap (λ (e : Edited (Unit {0})). answer_of (move_faults keeps first beside (plain_found new) (plain tree))
      (Ok (with_placed from to (plain_found old) (plain_document document) e)))
      (plain-placed keeps first (kept beside tree) ∙ ap (placed plain keeps first) (plain-kept beside tree))

  plain-moved_between : (first : ℕ) (path : List ℕ) (from to : Spot) (old new : Found L) (tree : Forest L) (parent : Option Parent)
      → without_labels (moved_between anew first path from to document old new tree parent)
      ≡ moved_between plain first path from to (plain_document document) (plain_found old) (plain_found new) (plain tree) parent
  plain-moved_between first path from to old new tree None = refl
  plain-moved_between first path from to old new tree (Some parent) =
      without-if (goes_through to.above path) (refused 15) (moved_below anew first from to document old new tree parent)
      ∙ ap (cond (goes_through to.above path) (refused 15)) (plain-below first from to old new tree parent)

  plain-moved_from : (first : ℕ) (path : List ℕ) (from to : Spot) (tree : Forest L) (old new : Option (Found L))
      → without_labels (moved_from anew first path from to document tree old new)
      ≡ moved_from plain first path from to (plain_document document) (plain tree) (option_map plain_found old) (option_map plain_found new)
  plain-moved_from first path from to tree None new = refl
  plain-moved_from first path from to tree (Some old) None = refl
  plain-moved_from first path from to tree (Some old) (Some new) =
      plain-moved_between first path from to old new tree (parent_by new.content new)
      ∙ ap (moved_between plain first path from to (plain_document document) (plain_found old) (plain_found new) (plain tree))
      (plain-parent new.content new)

  plain-moved_at : (first : ℕ) (path : List ℕ) (from to : Spot) (tree : Forest L)
      → without_labels (moved_at anew first path from to document tree) ≡ moved_at plain first path from to (plain_document document) (plain tree)
  plain-moved_at first path from to tree =
      let change = rearranged (from.position - 1) (to.position - 1) tree in
      let other = rearranged (from.position - 1) (to.position - 1) (plain tree) in
      let same_order = plain-rearranged (from.position - 1) (to.position - 1) tree in
      without-if (is_path from.above to.above) (Ok (record { nodes = children_changed change from.above document.nodes; made = 0 }))
      (moved_from anew first path from to document tree (node_at document from.above) (node_at document to.above))
      ∙ (λ i. cond (is_path from.above to.above)
      (Ok (record { nodes = plain-changed change other same_order from.above document.nodes i; made = 0 }))
      (plain-moved_from first path from to tree (node_at document from.above) (node_at document to.above) i))
      ∙ (λ i. cond (is_path from.above to.above)
      (Ok (record { nodes = children_changed other from.above (plain document.nodes); made = 0 }))
      (moved_from plain first path from to (plain_document document) (plain tree)
      (plain-node document from.above i) (plain-node document to.above i)))

  plain-by_content : (change : Found L → Content → Result (Edited L) Fault) (other : Found (Unit {0}) → Content → Result (Edited (Unit {0})) Fault)
      → ((node : Found L) (content : Content) → without_labels (change node content) ≡ other (plain_found node) content)
      → (node : Found L) (content : Option Content) → without_labels (by_content change node content) ≡ by_content other (plain_found node) content
  plain-by_content change other alike node None = refl
  plain-by_content change other alike node (Some content) = alike node content

  plain-by_node : (change : Found L → Content → Result (Edited L) Fault) (other : Found (Unit {0}) → Content → Result (Edited (Unit {0})) Fault)
      → ((node : Found L) (content : Content) → without_labels (change node content) ≡ other (plain_found node) content)
      → (found : Option (Found L)) → without_labels (by_node change found) ≡ by_node other (option_map plain_found found)
  plain-by_node change other alike None = refl
  plain-by_node change other alike (Some node) = plain-by_content change other alike node node.content

  plain-spot : (change : Spot → Result (Edited L) Fault) (other : Spot → Result (Edited (Unit {0})) Fault)
      → ((spot : Spot) → without_labels (change spot) ≡ other spot)
      → (path : List ℕ) → without_labels (at_spot path change) ≡ at_spot path other
  plain-spot change other alike [] = refl
  plain-spot change other alike (p ∷ ps) = alike (spot_from p ps)

  plain-there : (first : ℕ) (path other : List ℕ)
      → without_labels (moved_there anew first path other document) ≡ moved_there plain first path other (plain_document document)
  plain-there first path other =
      plain-spot _ _ (λ from. plain-spot _ _ (λ to.
      plain-by_node (λ node content. moved_at anew first path from to document (tree_of node content))
      (λ node content. moved_at plain first path from to (plain_document document) (tree_of node content))
      (λ node content. plain-moved_at first path from to (tree_of node content)) (node_at document path)
      ∙ ap (by_node (λ node content. moved_at plain first path from to (plain_document document) (tree_of node content))) (plain-node document path))
      other) path

  plain-moved : (first : ℕ) (path other : List ℕ)
      → without_labels (moved anew first path other document) ≡ moved plain first path other (plain_document document)
  plain-moved first path other =
      let stays : Result (Edited L) Fault = Ok (record { nodes = document.nodes; made = 0 }) in
      let there = moved_there anew first path other document in
      without-answer (origin_faults document path ++ target_faults document (spot_of other)) (cond (is_path path other) stays there)
      ∙ (λ i. answer_of (plain-origin document path i ++ plain-target document (spot_of other) i) (without-if (is_path path other) stays there i))
      ∙ ap (λ r. answer_of (origin_faults (plain_document document) path ++ target_faults (plain_document document) (spot_of other))
      (cond (is_path path other) (without_labels stays) r)) (plain-there first path other)

-- of a document whose nodes are numbered
pub plain_move : (first : ℕ) (path other : List ℕ) (document : Document ℕ)
    → without_labels (moved_nodes first path other document) ≡ moved_plain first path other (plain document.nodes)
plain_move first path other document = plain-moved (λ nodes. nodes) (λ f. refl) document first path other
