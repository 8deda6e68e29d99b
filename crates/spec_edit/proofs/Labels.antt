-- Edits change places and contents alone: with the labels forgotten, an edit is that of the plain document.
use Rattle.std.proofs.Common.{◌≡◌, ℕ, ◌+◌, ◌-◌, ◌==◌, Bool, true, false, cond, List, [], ◌∷◌, Option, None, Some, refl, sym, ap, ◌∙◌}
use Rattle.std.specs.Prelude.{Result, Ok, Err, nat_le, ◌&&◌}
use Rattle.std.specs.List.{list_all, list_any}
use Rattle.std.specs.Option.{option_map, option_and_then}
use Rattle.spec_document.specs.declared.parent.Parent.{Parent}
use Rattle.spec_document.specs.declared.parent.Parent.TheVariants as parent
use Rattle.spec_document.specs.Character.{is_char}
use Rattle.spec_document.specs.Forest.{Content, Element, Text, Comment, Instruction, Plain, Forest, Empty, Node, Document, plain, size, numbered, followed}
use Rattle.spec_document.specs.Place.{Found, root_of, found_in, child_at, node_from, node_at, scope_at}
use Rattle.spec_document.specs.Fault.{Fault, answer_of, least}
use Rattle.spec_document.specs.Declaration.{within}
use Rattle.spec_document.specs.NodeFaults.{content_faults}
use Rattle.spec_document.specs.Balance.{alone}
use Rattle.spec_document.specs.Document.{nodes_of}
use Rattle.spec_document.proofs.Written.{plain_itself}
use Rattle.spec_edit.specs.Splice.{Spot, spot_from, first_siblings, later_siblings, replaced, content_replaced, below_changed, children_changed}
use Rattle.spec_edit.specs.Splice.{text_before, last_before, met, inserted, deleted, sibling_count}
use Rattle.spec_edit.specs.Edit.{Edit, Insert, Delete, SetText, SetAttribute, RemoveAttribute, Rename, Edited, refused, without_labels}
use Rattle.spec_edit.specs.Edit.{scope_around, depth_of, tree_with, tree_faults, renewed, with_content, with_element, is_element, element_count}
use Rattle.spec_edit.specs.Edit.{parent_by, inserts, is_position, inserted_below, inserted_in, is_document_element, deletes, with_text, text_set}
use Rattle.spec_edit.specs.Edit.{makes_anew, is_named, with_attribute, without_attribute, attributes_changed, attribute_set, attribute_removed, renamed}
use Rattle.spec_edit.specs.Edit.{by_content, by_node, at_spot, edited, edited_nodes, edited_plain}

-- ---- Forests

pub plain-if : {L : Type 0} (b : Bool) (f g : Forest L) → plain (cond b f g) ≡ cond b (plain f) (plain g)
plain-if true f g = refl
plain-if false f g = refl

pub plain-followed : {L : Type 0} (f g : Forest L) → plain (followed f g) ≡ followed (plain f) (plain g)
plain-followed Empty g = refl
plain-followed (Node l c f s) g = ap (Node tt c (plain f)) (plain-followed s g)

pub plain-first : {L : Type 0} (n : ℕ) (f : Forest L) → plain (first_siblings n f) ≡ first_siblings n (plain f)
plain-first n Empty = refl
plain-first n (Node l c f s) =
    plain-if (n == 0) Empty (Node l c f (first_siblings (n - 1) s))
    ∙ ap (λ (t : Plain). cond (n == 0) Empty (Node tt c (plain f) t)) (plain-first (n - 1) s)

pub plain-later : {L : Type 0} (n : ℕ) (f : Forest L) → plain (later_siblings n f) ≡ later_siblings n (plain f)
plain-later n Empty = refl
plain-later n (Node l c f s) =
    plain-if (n == 0) (Node l c f s) (later_siblings (n - 1) s)
    ∙ ap (λ (t : Plain). cond (n == 0) (Node tt c (plain f) (plain s)) t) (plain-later (n - 1) s)

pub plain-replaced : {L : Type 0} (from to : ℕ) (others siblings : Forest L)
    → plain (replaced from to others siblings) ≡ replaced from to (plain others) (plain siblings)
plain-replaced from to others siblings =
    plain-followed (first_siblings from siblings) (followed others (later_siblings to siblings))
    ∙ (λ i. followed (plain-first from siblings i) (plain-followed others (later_siblings to siblings) i))
    ∙ ap (λ (t : Plain). followed (first_siblings from (plain siblings)) (followed (plain others) t)) (plain-later to siblings)

pub plain-content : {L : Type 0} (n : ℕ) (new : Content) (f : Forest L) → plain (content_replaced n new f) ≡ content_replaced n new (plain f)
plain-content n new Empty = refl
plain-content n new (Node l c f s) =
    plain-if (n == 1) (Node l new f s) (Node l c f (content_replaced (n - 1) new s))
    ∙ ap (λ (t : Plain). cond (n == 1) (Node tt new (plain f) (plain s)) (Node tt c (plain f) t)) (plain-content (n - 1) new s)

pub plain-below : {L : Type 0} (change : Forest L → Forest L) (other : Plain → Plain) → ((f : Forest L) → plain (change f) ≡ other (plain f))
    → (n : ℕ) (f : Forest L) → plain (below_changed change n f) ≡ below_changed other n (plain f)
plain-below change other same n Empty = refl
plain-below change other same n (Node l c f s) =
    plain-if (n == 1) (Node l c (change f) s) (Node l c f (below_changed change (n - 1) s))
    ∙ (λ i. cond (n == 1) (Node tt c (same f i) (plain s)) (Node tt c (plain f) (plain-below change other same (n - 1) s i)))

pub plain-changed : {L : Type 0} (change : Forest L → Forest L) (other : Plain → Plain) → ((f : Forest L) → plain (change f) ≡ other (plain f))
    → (ps : List ℕ) (f : Forest L) → plain (children_changed change ps f) ≡ children_changed other ps (plain f)
plain-changed change other same [] f = same f
plain-changed change other same (p ∷ ps) f =
    plain-below (children_changed change ps) (children_changed other ps) (plain-changed change other same ps) p f

plain-text_before : {L : Type 0} (l : L) (text : List ℕ) (children others : Forest L)
    → plain (text_before l text children others) ≡ text_before tt text (plain children) (plain others)
plain-text_before l text children Empty = refl
plain-text_before l text children (Node k (Element n a) f s) = refl
plain-text_before l text children (Node k (Text t) f s) = refl
plain-text_before l text children (Node k (Comment t) f s) = refl
plain-text_before l text children (Node k (Instruction n t) f s) = refl

plain-last : {L : Type 0} (l : L) (c : Content) (children others : Forest L)
    → plain (last_before l c children others) ≡ last_before tt c (plain children) (plain others)
plain-last l (Element n a) children others = refl
plain-last l (Text t) children others = plain-text_before l t children others
plain-last l (Comment t) children others = refl
plain-last l (Instruction n t) children others = refl

pub plain-met : {L : Type 0} (f others : Forest L) → plain (met f others) ≡ met (plain f) (plain others)
plain-met Empty others = refl
plain-met (Node l c f Empty) others = plain-last l c f others
plain-met (Node l c f (Node k d g s)) others = ap (Node tt c (plain f)) (plain-met (Node k d g s) others)

pub plain-inserted : {L : Type 0} (n : ℕ) (nodes f : Forest L) → plain (inserted n nodes f) ≡ inserted n (plain nodes) (plain f)
plain-inserted n nodes f =
    plain-met (first_siblings n f) (met nodes (later_siblings n f))
    ∙ (λ i. met (plain-first n f i) (plain-met nodes (later_siblings n f) i))
    ∙ ap (λ (t : Plain). met (first_siblings n (plain f)) (met (plain nodes) t)) (plain-later n f)

pub plain-deleted : {L : Type 0} (n : ℕ) (f : Forest L) → plain (deleted n f) ≡ deleted n (plain f)
plain-deleted n f = plain-met (first_siblings n f) (later_siblings (n + 1) f) ∙ (λ i. met (plain-first n f i) (plain-later (n + 1) f i))

pub plain-count : {L : Type 0} (f : Forest L) → sibling_count (plain f) ≡ sibling_count f
plain-count Empty = refl
plain-count (Node l c f s) = ap (λ n. 1 + n) (plain-count s)

pub plain-elements : {L : Type 0} (f : Forest L) → element_count (plain f) ≡ element_count f
plain-elements Empty = refl
plain-elements (Node l c f s) = ap (λ n. cond (is_element c) 1 0 + n) (plain-elements s)

-- numbers are labels
pub plain-numbered : {L : Type 0} (n : ℕ) (f : Forest L) → plain (numbered n f) ≡ plain f
plain-numbered n Empty = refl
plain-numbered n (Node l c f s) = λ i. Node tt c (plain-numbered (n + 1) f i) (plain-numbered (n + 1 + size f) s i)

-- ---- Nodes

abbrev pub plain_document : {L : Type 0} → Document L → Document (Unit {0})
plain_document document = record { root = tt; nodes = plain document.nodes }

abbrev pub plain_found : {L : Type 0} → Found L → Found (Unit {0})
plain_found node = record { label = tt; content = node.content; children = plain node.children; above = node.above }

plain-child : {L : Type 0} (above : List Content) (f : Forest L) (p : ℕ) → option_map plain_found (child_at above f p) ≡ child_at above (plain f) p
plain-child above Empty p = refl
plain-child above (Node l c f s) p =
    elim (p == 1) as (λ b. option_map plain_found (cond b (Some (found_in above l c f)) (child_at above s (p - 1)))
    ≡ cond b (Some (found_in above tt c (plain f))) (child_at above (plain s) (p - 1))) [
      | true ↦ refl
      | false ↦ plain-child above s (p - 1)
    ]

plain-steps : {L : Type 0} (ps : List ℕ) → ((x : Found L) → option_map plain_found (node_from ps x) ≡ node_from ps (plain_found x)) → (o : Option (Found L))
    → option_map plain_found (option_and_then (node_from ps) o) ≡ option_and_then (node_from ps) (option_map plain_found o)
plain-steps ps same None = refl
plain-steps ps same (Some x) = same x

plain-from : {L : Type 0} (ps : List ℕ) (node : Found L) → option_map plain_found (node_from ps node) ≡ node_from ps (plain_found node)
plain-from [] node = refl
plain-from (p ∷ ps) node =
    plain-steps ps (plain-from ps) (child_at node.above node.children p)
    ∙ ap (option_and_then (node_from ps)) (plain-child node.above node.children p)

pub plain-node : {L : Type 0} (document : Document L) (ps : List ℕ)
    → option_map plain_found (node_at document ps) ≡ node_at (plain_document document) ps
plain-node document ps = plain-from ps (root_of document)

-- ---- Edits

without-if : {L : Type 0} (b : Bool) (r q : Result (Edited L) Fault) → without_labels (cond b r q) ≡ cond b (without_labels r) (without_labels q)
without-if true r q = refl
without-if false r q = refl

without-answer : {L : Type 0} (faults : List Fault) (r : Result (Edited L) Fault) → without_labels (answer_of faults r) ≡ answer_of faults (without_labels r)
without-answer {L} faults r = by (least faults)
  where
    by : (o : Option Fault) → without_labels (elim o as (λ _. Result (Edited L) Fault) [ None ↦ r | Some fault ↦ Err fault ])
        ≡ elim o as (λ _. Result (Edited (Unit {0})) Fault) [ None ↦ without_labels r | Some fault ↦ Err fault ]
    by None = refl
    by (Some fault) = refl

made_of_nodes : {L : Type 0} (nodes : Forest L) (other : Plain) (made : ℕ) → plain nodes ≡ other
    → without_labels (Ok (record { nodes = nodes; made = made })) ≡ Ok (record { nodes = other; made = made })
made_of_nodes nodes other made e = λ i. Ok (record { nodes = e i; made = made })

-- a change at a place, and the same of plain forests
changed-plain : {L : Type 0} (change : Forest L → Forest L) (other : Plain → Plain) → ((f : Forest L) → plain (change f) ≡ other (plain f))
    → (ps : List ℕ) (document : Document L) (made : ℕ)
    → without_labels (Ok (record { nodes = children_changed change ps document.nodes; made = made }))
    ≡ Ok (record { nodes = children_changed other ps (plain document.nodes); made = made })
changed-plain change other same ps document made = λ i. Ok (record { nodes = plain-changed change other same ps document.nodes i; made = made })

module _ {L : Type 0} (anew : Forest ℕ → Forest L) (same : (f : Forest ℕ) → plain (anew f) ≡ plain f) (document : Document L) where
  renewed-tree : (first : ℕ) (spot : Spot) (node : Found L) (tree : Plain)
      → without_labels (answer_of (tree_faults first node tree) (Ok (record {
        nodes = children_changed (replaced (spot.position - 1) spot.position (anew (numbered first tree))) spot.above document.nodes;
        made = size tree;
      })))
      ≡ answer_of (tree_faults first node tree) (Ok (record {
        nodes = children_changed (replaced (spot.position - 1) spot.position (plain (numbered first tree))) spot.above (plain document.nodes);
        made = size tree;
      }))
  renewed-tree first spot node tree =
      without-answer (tree_faults first node tree) (Ok (record {
        nodes = children_changed (replaced (spot.position - 1) spot.position (anew (numbered first tree))) spot.above document.nodes;
        made = size tree;
      }))
      ∙ ap (answer_of (tree_faults first node tree))
      (changed-plain (replaced (spot.position - 1) spot.position (anew (numbered first tree)))
      (replaced (spot.position - 1) spot.position (plain (numbered first tree)))
      (λ f. plain-replaced (spot.position - 1) spot.position (anew (numbered first tree)) f
      ∙ ap (λ (t : Plain). replaced (spot.position - 1) spot.position t (plain f)) (same (numbered first tree)))
      spot.above document (size tree))

  plain-renewed : (first : ℕ) (spot : Spot) (node : Found L) (content : Content)
      → without_labels (renewed anew first spot document node content)
      ≡ renewed plain first spot (plain_document document) (plain_found node) content
  plain-renewed first spot node content =
      renewed-tree first spot node (tree_with content node)
      ∙ ap (λ (tree : Plain). answer_of (tree_faults first node tree) (Ok (record {
        nodes = children_changed (replaced (spot.position - 1) spot.position (plain (numbered first tree))) spot.above (plain document.nodes);
        made = size tree;
      }))) (ap (λ (children : Plain). Node tt content children Empty) (sym (plain_itself (plain node.children))))

  plain-with_content : (spot : Spot) (content : Content)
      → without_labels (Ok (with_content spot document content)) ≡ Ok (with_content spot (plain_document document) content)
  plain-with_content spot content =
      changed-plain (content_replaced spot.position content) (content_replaced spot.position content)
      (plain-content spot.position content) spot.above document 0

  plain-with_element : (spot : Spot) (node : Found L) (content : Content)
      → without_labels (with_element spot document node content) ≡ with_element spot (plain_document document) (plain_found node) content
  plain-with_element spot node content =
      let faults = content_faults (within content (scope_around node)) (depth_of node) (alone 0) content in
      without-answer faults (Ok (with_content spot document content)) ∙ ap (answer_of faults) (plain-with_content spot content)

  -- ---- Insert

  plain-parent : (content : Option Content) (node : Found L) → parent_by content node ≡ parent_by content (plain_found node)
  plain-parent None node = ap (λ n. Some (parent.Root n)) (sym (plain-elements node.children))
  plain-parent (Some content) node = refl

  plain-inserts : (spot : Spot) (nodes : Result (Forest ℕ) Fault)
      → without_labels (inserts anew spot document nodes) ≡ inserts plain spot (plain_document document) nodes
  plain-inserts spot (Err fault) = refl
  plain-inserts spot (Ok nodes) =
      changed-plain (inserted (spot.position - 1) (anew nodes)) (inserted (spot.position - 1) (plain nodes))
      (λ f. plain-inserted (spot.position - 1) (anew nodes) f ∙ ap (λ (t : Plain). inserted (spot.position - 1) t (plain f)) (same nodes))
      spot.above document (size nodes)

  plain-inserted_below : (first : ℕ) (spot : Spot) (body : List (List ℕ)) (node : Found L) (above : Option Parent)
      → without_labels (inserted_below anew first spot body document node above)
      ≡ inserted_below plain first spot body (plain_document document) (plain_found node) above
  plain-inserted_below first spot body node None = refl
  plain-inserted_below first spot body node (Some above) =
      let nodes = nodes_of (scope_at node) first above body in
      without-if (is_position spot.position node.children) (inserts anew spot document nodes) (refused 6)
      ∙ (λ i. cond (nat_le 1 spot.position && nat_le spot.position (sym (plain-count node.children) i + 1)) (plain-inserts spot nodes i) (refused 6))

  plain-inserted_in : (first : ℕ) (spot : Spot) (body : List (List ℕ)) (found : Option (Found L))
      → without_labels (inserted_in anew first spot body document found)
      ≡ inserted_in plain first spot body (plain_document document) (option_map plain_found found)
  plain-inserted_in first spot body None = refl
  plain-inserted_in first spot body (Some node) =
      plain-inserted_below first spot body node (parent_by node.content node)
      ∙ ap (inserted_below plain first spot body (plain_document document) (plain_found node)) (plain-parent node.content node)

  -- ---- The other edits

  plain-deletes : (spot : Spot) (node : Found L) (content : Content)
      → without_labels (deletes spot document node content) ≡ deletes spot (plain_document document) (plain_found node) content
  plain-deletes spot node content =
      without-if (is_document_element node content) (refused 9)
      (Ok (record { nodes = children_changed (deleted (spot.position - 1)) spot.above document.nodes; made = 0 }))
      ∙ ap (cond (is_document_element node content) (refused 9))
      (changed-plain (deleted (spot.position - 1)) (deleted (spot.position - 1)) (plain-deleted (spot.position - 1)) spot.above document 0)

  plain-with_text : (spot : Spot) (value : List ℕ)
      → without_labels (Ok (with_text spot document value)) ≡ Ok (with_text spot (plain_document document) value)
  plain-with_text spot [] =
      changed-plain (deleted (spot.position - 1)) (deleted (spot.position - 1)) (plain-deleted (spot.position - 1)) spot.above document 0
  plain-with_text spot (c ∷ cs) = plain-with_content spot (Text (c ∷ cs))

  plain-text_set : (spot : Spot) (value : List ℕ) (node : Found L) (content : Content)
      → without_labels (text_set spot document value content) ≡ text_set spot (plain_document document) value content
  plain-text_set spot value node (Element name attributes) = refl
  plain-text_set spot value node (Text text) =
      without-if (list_all is_char value) (Ok (with_text spot document value)) (refused 8)
      ∙ ap (λ (r : Result (Edited (Unit {0})) Fault). cond (list_all is_char value) r (refused 8)) (plain-with_text spot value)
  plain-text_set spot value node (Comment text) =
      without-if (list_all is_char value) (Ok (with_content spot document (Comment value))) (refused 8)
      ∙ ap (λ (r : Result (Edited (Unit {0})) Fault). cond (list_all is_char value) r (refused 8)) (plain-with_content spot (Comment value))
  plain-text_set spot value node (Instruction target text) =
      without-if (list_all is_char value) (Ok (with_content spot document (Instruction target value))) (refused 8)
      ∙ ap (λ (r : Result (Edited (Unit {0})) Fault). cond (list_all is_char value) r (refused 8)) (plain-with_content spot (Instruction target value))

  plain-attributes : (first : ℕ) (spot : Spot) (node : Found L) (written : List ℕ) (content : Content)
      → without_labels (attributes_changed anew first spot document node written content)
      ≡ attributes_changed plain first spot (plain_document document) (plain_found node) written content
  plain-attributes first spot node written content =
      without-if (makes_anew written) (renewed anew first spot document node content) (with_element spot document node content)
      ∙ (λ i. cond (makes_anew written) (plain-renewed first spot node content i) (plain-with_element spot node content i))

  plain-attribute_set : (first : ℕ) (spot : Spot) (name value : List ℕ) (node : Found L) (content : Content)
      → without_labels (attribute_set anew first spot document name value node content)
      ≡ attribute_set plain first spot (plain_document document) name value (plain_found node) content
  plain-attribute_set first spot name value node (Element own attributes) =
      let changed = Element own (with_attribute name value attributes) in
      without-if (list_all is_char value) (attributes_changed anew first spot document node name changed) (refused 8)
      ∙ ap (λ (r : Result (Edited (Unit {0})) Fault). cond (list_all is_char value) r (refused 8)) (plain-attributes first spot node name changed)
  plain-attribute_set first spot name value node (Text text) = refl
  plain-attribute_set first spot name value node (Comment text) = refl
  plain-attribute_set first spot name value node (Instruction target text) = refl

  plain-attribute_removed : (first : ℕ) (spot : Spot) (name : List ℕ) (node : Found L) (content : Content)
      → without_labels (attribute_removed anew first spot document name node content)
      ≡ attribute_removed plain first spot (plain_document document) name (plain_found node) content
  plain-attribute_removed first spot name node (Element own attributes) =
      let changed = Element own (without_attribute name attributes) in
      without-if (list_any (is_named name) attributes) (attributes_changed anew first spot document node name changed) (refused 6)
      ∙ ap (λ (r : Result (Edited (Unit {0})) Fault). cond (list_any (is_named name) attributes) r (refused 6))
      (plain-attributes first spot node name changed)
  plain-attribute_removed first spot name node (Text text) = refl
  plain-attribute_removed first spot name node (Comment text) = refl
  plain-attribute_removed first spot name node (Instruction target text) = refl

  plain-renamed : (first : ℕ) (spot : Spot) (name : List ℕ) (node : Found L) (content : Content)
      → without_labels (renamed anew first spot document name node content)
      ≡ renamed plain first spot (plain_document document) name (plain_found node) content
  plain-renamed first spot name node (Element own attributes) = plain-renewed first spot node (Element name attributes)
  plain-renamed first spot name node (Text text) = refl
  plain-renamed first spot name node (Comment text) = refl
  plain-renamed first spot name node (Instruction target text) = plain-renewed first spot node (Instruction name text)

  plain-by_content : (change : Found L → Content → Result (Edited L) Fault) (other : Found (Unit {0}) → Content → Result (Edited (Unit {0})) Fault)
      → ((node : Found L) (content : Content) → without_labels (change node content) ≡ other (plain_found node) content)
      → (node : Found L) (content : Option Content) → without_labels (by_content change node content) ≡ by_content other (plain_found node) content
  plain-by_content change other alike node None = refl
  plain-by_content change other alike node (Some content) = alike node content

  plain-by_node : (change : Found L → Content → Result (Edited L) Fault) (other : Found (Unit {0}) → Content → Result (Edited (Unit {0})) Fault)
      → ((node : Found L) (content : Content) → without_labels (change node content) ≡ other (plain_found node) content)
      → (found : Option (Found L)) → without_labels (by_node change found) ≡ by_node other (option_map plain_found found)
  plain-by_node change other alike None = refl
  plain-by_node change other alike (Some node) = plain-by_content change other alike node node.content

  plain-at : (change : Found L → Content → Result (Edited L) Fault) (other : Found (Unit {0}) → Content → Result (Edited (Unit {0})) Fault)
      → ((node : Found L) (content : Content) → without_labels (change node content) ≡ other (plain_found node) content)
      → (path : List ℕ)
      → without_labels (by_node change (node_at document path)) ≡ by_node other (node_at (plain_document document) path)
  plain-at change other alike path =
      plain-by_node change other alike (node_at document path) ∙ ap (by_node other) (plain-node document path)

  plain-spot : (change : Spot → Result (Edited L) Fault) (other : Spot → Result (Edited (Unit {0})) Fault)
      → ((spot : Spot) → without_labels (change spot) ≡ other spot)
      → (path : List ℕ) → without_labels (at_spot path change) ≡ at_spot path other
  plain-spot change other alike [] = refl
  plain-spot change other alike (p ∷ ps) = alike (spot_from p ps)

  pub plain_edited : (first : ℕ) (edit : Edit) → without_labels (edited anew first edit document) ≡ edited plain first edit (plain_document document)
  plain_edited first (Insert path body) =
      plain-spot _ (λ spot. inserted_in plain first spot body (plain_document document) (node_at (plain_document document) spot.above))
      (λ spot. plain-inserted_in first spot body (node_at document spot.above)
      ∙ ap (inserted_in plain first spot body (plain_document document)) (plain-node document spot.above)) path
  plain_edited first (Delete path) =
      plain-spot _ _ (λ spot. plain-at (deletes spot document) (deletes spot (plain_document document)) (plain-deletes spot) path) path
  plain_edited first (SetText path value) =
      plain-spot _ _ (λ spot. plain-at (λ node. text_set spot document value) (λ node. text_set spot (plain_document document) value)
      (plain-text_set spot value) path) path
  plain_edited first (SetAttribute path name value) =
      plain-spot _ _ (λ spot. plain-at (attribute_set anew first spot document name value)
      (attribute_set plain first spot (plain_document document) name value) (plain-attribute_set first spot name value) path) path
  plain_edited first (RemoveAttribute path name) =
      plain-spot _ _ (λ spot. plain-at (attribute_removed anew first spot document name)
      (attribute_removed plain first spot (plain_document document) name) (plain-attribute_removed first spot name) path) path
  plain_edited first (Rename path name) =
      plain-spot _ _ (λ spot. plain-at (renamed anew first spot document name)
      (renamed plain first spot (plain_document document) name) (plain-renamed first spot name) path) path

-- of a document whose nodes are numbered
pub plain_edit : (first : ℕ) (edit : Edit) (document : Document ℕ)
    → without_labels (edited_nodes first edit document) ≡ edited_plain first edit (plain document.nodes)
plain_edit first edit document = plain_edited (λ nodes. nodes) (λ f. refl) document first edit
