-- Edits keep documents made of XML Chars.
use Rattle.std.proofs.Common.{◌≡◌, ℕ, ◌-◌, Bool, true, false, not, cond, List, [], ◌∷◌, ◌++◌, map, Option, None, Some, refl, ◌∙◌, subst}
use Rattle.std.specs.Prelude.{IsTrue, Result, Ok, Err}
use Rattle.std.specs.List.{list_all, list_any}
use Rattle.std.proofs.lemmas.Bool.{and_parts, and_from}
use Rattle.std.proofs.lemmas.List.Folds.{list_all-append}
use Rattle.spec_document.specs.Character.{is_char}
use Rattle.spec_document.specs.declared.parent.Parent.{Parent}
use Rattle.spec_document.specs.Forest.{Written, Content, Element, Text, Comment, Instruction, Forest, Document, size, numbered}
use Rattle.spec_document.specs.Fault.{Fault, answer_of}
use Rattle.spec_document.specs.Balance.{alone}
use Rattle.spec_document.specs.Declaration.{within}
use Rattle.spec_document.specs.NodeFaults.{content_faults}
use Rattle.spec_document.specs.Document.{nodes_of}
use Rattle.spec_document.specs.Place.{Found, node_at, scope_at}
use Rattle.spec_edit.specs.Splice.{Spot, spot_from, replaced, content_replaced, children_changed, inserted, deleted}
use Rattle.spec_edit.specs.Edit.{Edit, Insert, Delete, SetText, SetAttribute, RemoveAttribute, Rename, Edited, edited_nodes, refused}
use Rattle.spec_edit.specs.Edit.{tree_with, tree_faults, renewed, with_content, with_element, scope_around, depth_of, inserts, inserted_below}
use Rattle.spec_edit.specs.Edit.{inserted_in}
use Rattle.spec_edit.specs.Edit.{parent_by, is_position, is_document_element, deletes, with_text, text_set, is_named, set_in, with_attribute}
use Rattle.spec_edit.specs.Edit.{without_attribute}
use Rattle.spec_edit.specs.Edit.{makes_anew, attributes_changed, attribute_set, attribute_removed, renamed, by_content, by_node}
use Rattle.spec_afresh.specs.Characters.{has_chars, HasChars}
use Rattle.spec_afresh.proofs.Characters.{chars-plain, chars-numbered, chars-replaced, chars-content, chars-changed, chars-inserted, chars-deleted}
use Rattle.spec_afresh.proofs.Characters.{content_has_chars, node-chars}
use Rattle.spec_afresh.proofs.Reading.{nodes-chars}

-- what is answered, if it is a document, is made of XML Chars
abbrev pub IfEdited : Result (Edited ℕ) Fault → Type 0
IfEdited (Ok new) = HasChars new.nodes
IfEdited (Err fault) = Unit {0}

pub answered-chars : (faults : List Fault) (r : Result (Edited ℕ) Fault) → IfEdited r → IfEdited (answer_of faults r)
answered-chars [] r h = h
answered-chars (fault ∷ faults) r h = tt

pub either-chars : (b : Bool) (r s : Result (Edited ℕ) Fault) → (b ≡ true → IfEdited r) → IfEdited s → IfEdited (cond b r s)
either-chars true r s h k = h refl
either-chars false r s h k = k

abbrev same_nodes : Forest ℕ → Forest ℕ
same_nodes nodes = nodes

module _ (first : ℕ) (document : Document ℕ) (old : HasChars document.nodes) where
  -- ---- One content in place of another

  content-chars : (spot : Spot) (content : Content) → IsTrue (has_chars content) → IfEdited (Ok (with_content spot document content))
  content-chars spot content own =
      chars-changed (content_replaced spot.position content) (λ f h. chars-content spot.position content f own h) spot.above document.nodes old

  deleted-chars : (spot : Spot) → HasChars (children_changed (deleted (spot.position - 1)) spot.above document.nodes)
  deleted-chars spot = chars-changed (deleted (spot.position - 1)) (chars-deleted (spot.position - 1)) spot.above document.nodes old

  renewed-chars : (spot : Spot) (node : Found ℕ) (content : Content) → IsTrue (has_chars content) → HasChars node.children
      → IfEdited (renewed same_nodes first spot document node content)
  renewed-chars spot node content own below =
      let tree = tree_with content node in
      let n = spot.position in
      let new = numbered first tree in
      let there : HasChars new = chars-numbered first tree (own, chars-plain node.children below, tt) in
      answered-chars (tree_faults first node tree) (Ok (record {
        nodes = children_changed (replaced (n - 1) n new) spot.above document.nodes;
        made = size tree;
      }))
      (chars-changed (replaced (n - 1) n new) (λ f h. chars-replaced (n - 1) n new f there h) spot.above document.nodes old)

  element-chars : (spot : Spot) (node : Found ℕ) (content : Content) → IsTrue (has_chars content) → IfEdited (with_element spot document node content)
  element-chars spot node content own =
      answered-chars (content_faults (within content (scope_around node)) (depth_of node) (alone 0) content)
      (Ok (with_content spot document content)) (content-chars spot content own)

  -- ---- Attributes

  set-chars : (name value : List ℕ) (attributes : List Written) → IsTrue (list_all is_char value)
      → IsTrue (list_all (λ a. list_all is_char a.value) attributes)
      → IsTrue (list_all (λ a. list_all is_char a.value) (map (set_in name value) attributes))
  set-chars name value [] own h = refl
  set-chars name value (a ∷ attributes) own h =
      let parts = and_parts (list_all is_char a.value) (list_all (λ b. list_all is_char b.value) attributes) h in
      let more = set-chars name value attributes own parts.1 in
      by (is_named name a) parts.0 more
    where
      by : (b : Bool) → IsTrue (list_all is_char a.value)
          → IsTrue (list_all (λ c. list_all is_char c.value) (map (set_in name value) attributes))
          → IsTrue (list_all (λ c. list_all is_char c.value) (cond b (record { name = name; value = value }) a ∷ map (set_in name value) attributes))
      by true mine more = and_from (list_all is_char value) (list_all (λ c. list_all is_char c.value) (map (set_in name value) attributes)) own more
      by false mine more =
          and_from (list_all is_char a.value) (list_all (λ c. list_all is_char c.value) (map (set_in name value) attributes)) mine more

  with-chars : (name value : List ℕ) (attributes : List Written) → IsTrue (list_all is_char value)
      → IsTrue (list_all (λ a. list_all is_char a.value) attributes)
      → IsTrue (list_all (λ a. list_all is_char a.value) (with_attribute name value attributes))
  with-chars name value attributes own h = by (list_any (is_named name) attributes)
    where
      new : Written
      new = record { name = name; value = value }

      by : (b : Bool) → IsTrue (list_all (λ a. list_all is_char a.value) (cond b (map (set_in name value) attributes) (attributes ++ new ∷ [])))
      by true = set-chars name value attributes own h
      by false =
          list_all-append (λ a. list_all is_char a.value) attributes (new ∷ [])
          ∙ and_from (list_all (λ a. list_all is_char a.value) attributes) (list_all (λ a. list_all is_char a.value) (new ∷ [])) h
          (and_from (list_all is_char value) true own refl)

  without-chars : (name : List ℕ) (attributes : List Written) → IsTrue (list_all (λ a. list_all is_char a.value) attributes)
      → IsTrue (list_all (λ a. list_all is_char a.value) (without_attribute name attributes))
  without-chars name [] h = refl
  without-chars name (a ∷ attributes) h =
      let parts = and_parts (list_all is_char a.value) (list_all (λ b. list_all is_char b.value) attributes) h in
      by (is_named name a) parts.0 (without-chars name attributes parts.1)
    where
      by : (b : Bool) → IsTrue (list_all is_char a.value)
          → IsTrue (list_all (λ c. list_all is_char c.value) (without_attribute name attributes))
          → IsTrue (list_all (λ c. list_all is_char c.value)
          (cond (not b) (a ∷ without_attribute name attributes) (without_attribute name attributes)))
      by true mine more = more
      by false mine more =
          and_from (list_all is_char a.value) (list_all (λ c. list_all is_char c.value) (without_attribute name attributes)) mine more

  attributes-chars : (spot : Spot) (node : Found ℕ) (name : List ℕ) (content : Content) → IsTrue (has_chars content) → HasChars node.children
      → IfEdited (attributes_changed same_nodes first spot document node name content)
  attributes-chars spot node name content own below = by (makes_anew name)
    where
      by : (b : Bool) → IfEdited (cond b (renewed same_nodes first spot document node content) (with_element spot document node content))
      by true = renewed-chars spot node content own below
      by false = element-chars spot node content own

  -- ---- At a node that is not the root

  abbrev Here : Found ℕ → Content → Type 0
  Here node content = IsTrue (has_chars content) × HasChars node.children

  delete-chars : (spot : Spot) (node : Found ℕ) (content : Content) → Here node content → IfEdited (deletes spot document node content)
  delete-chars spot node content h = by (is_document_element node content)
    where
      by : (b : Bool) → IfEdited (cond b (refused 9)
          (Ok (record { nodes = children_changed (deleted (spot.position - 1)) spot.above document.nodes; made = 0 })))
      by true = tt
      by false = deleted-chars spot

  text-chars : (spot : Spot) (value : List ℕ) → IsTrue (list_all is_char value) → IfEdited (Ok (with_text spot document value))
  text-chars spot [] own = deleted-chars spot
  text-chars spot (c ∷ cs) own = content-chars spot (Text (c ∷ cs)) own

  set-text-chars : (spot : Spot) (value : List ℕ) (node : Found ℕ) (content : Content) → Here node content
      → IfEdited (text_set spot document value content)
  set-text-chars spot value node (Element name attributes) h = tt
  set-text-chars spot value node (Text text) h =
      either-chars (list_all is_char value) (Ok (with_text spot document value)) (refused 8) (text-chars spot value) tt
  set-text-chars spot value node (Comment text) h =
      either-chars (list_all is_char value) (Ok (with_content spot document (Comment value))) (refused 8) (content-chars spot (Comment value)) tt
  set-text-chars spot value node (Instruction target text) h =
      either-chars (list_all is_char value) (Ok (with_content spot document (Instruction target value))) (refused 8)
      (content-chars spot (Instruction target value)) tt

  set-attribute-chars : (spot : Spot) (name value : List ℕ) (node : Found ℕ) (content : Content) → Here node content
      → IfEdited (attribute_set same_nodes first spot document name value node content)
  set-attribute-chars spot name value node (Element own attributes) h =
      let new = Element own (with_attribute name value attributes) in
      either-chars (list_all is_char value) (attributes_changed same_nodes first spot document node name new) (refused 8)
      (λ fine. attributes-chars spot node name new (with-chars name value attributes fine h.0) h.1) tt
  set-attribute-chars spot name value node (Text text) h = tt
  set-attribute-chars spot name value node (Comment text) h = tt
  set-attribute-chars spot name value node (Instruction target text) h = tt

  remove-attribute-chars : (spot : Spot) (name : List ℕ) (node : Found ℕ) (content : Content) → Here node content
      → IfEdited (attribute_removed same_nodes first spot document name node content)
  remove-attribute-chars spot name node (Element own attributes) h =
      let new = Element own (without_attribute name attributes) in
      either-chars (list_any (is_named name) attributes) (attributes_changed same_nodes first spot document node name new) (refused 6)
      (λ there. attributes-chars spot node name new (without-chars name attributes h.0) h.1) tt
  remove-attribute-chars spot name node (Text text) h = tt
  remove-attribute-chars spot name node (Comment text) h = tt
  remove-attribute-chars spot name node (Instruction target text) h = tt

  rename-chars : (spot : Spot) (name : List ℕ) (node : Found ℕ) (content : Content) → Here node content
      → IfEdited (renamed same_nodes first spot document name node content)
  rename-chars spot name node (Element own attributes) h = renewed-chars spot node (Element name attributes) h.0 h.1
  rename-chars spot name node (Text text) h = tt
  rename-chars spot name node (Comment text) h = tt
  rename-chars spot name node (Instruction target text) h = renewed-chars spot node (Instruction name text) h.0 h.1

  -- ---- Insert

  inserts-chars : (spot : Spot) (r : Result (Forest ℕ) Fault) → ((nodes : Forest ℕ) → r ≡ Ok nodes → HasChars nodes)
      → IfEdited (inserts same_nodes spot document r)
  inserts-chars spot (Err fault) h = tt
  inserts-chars spot (Ok nodes) h =
      chars-changed (inserted (spot.position - 1) nodes) (λ f k. chars-inserted (spot.position - 1) nodes f (h nodes refl) k)
      spot.above document.nodes old

  below-chars : (spot : Spot) (body : List (List ℕ)) (node : Found ℕ) (o : Option Parent)
      → IfEdited (inserted_below same_nodes first spot body document node o)
  below-chars spot body node None = tt
  below-chars spot body node (Some parent) =
      let read = nodes_of (scope_at node) first parent body in
      either-chars (is_position spot.position node.children) (inserts same_nodes spot document read) (refused 6)
      (λ there. inserts-chars spot read (λ nodes e. nodes-chars (scope_at node) first parent body nodes e)) tt

  insert-chars : (spot : Spot) (body : List (List ℕ)) (o : Option (Found ℕ)) → IfEdited (inserted_in same_nodes first spot body document o)
  insert-chars spot body None = tt
  insert-chars spot body (Some node) = below-chars spot body node (parent_by node.content node)

  -- ---- Edits

  at-content : (change : Found ℕ → Content → Result (Edited ℕ) Fault)
      → ((node : Found ℕ) (content : Content) → Here node content → IfEdited (change node content))
      → (node : Found ℕ) (o : Option Content) → content_has_chars o → HasChars node.children → IfEdited (by_content change node o)
  at-content change keeps node None own below = tt
  at-content change keeps node (Some content) own below = keeps node content (own, below)

  pub at-node : (change : Found ℕ → Content → Result (Edited ℕ) Fault)
      → ((node : Found ℕ) (content : Content) → Here node content → IfEdited (change node content))
      → (path : List ℕ) → IfEdited (by_node change (node_at document path))
  at-node change keeps path = by (node_at document path) refl
    where
      by : (o : Option (Found ℕ)) → node_at document path ≡ o → IfEdited (by_node change o)
      by None e = tt
      by (Some node) e = let h = node-chars document path node old e in at-content change keeps node node.content h.content h.children

  pub edited-chars : (edit : Edit) → IfEdited (edited_nodes first edit document)
  edited-chars (Insert [] body) = tt
  edited-chars (Insert (p ∷ ps) body) = let spot = spot_from p ps in insert-chars spot body (node_at document spot.above)
  edited-chars (Delete []) = tt
  edited-chars (Delete (p ∷ ps)) = let spot = spot_from p ps in at-node (deletes spot document) (delete-chars spot) (p ∷ ps)
  edited-chars (SetText [] value) = tt
  edited-chars (SetText (p ∷ ps) value) =
      let spot = spot_from p ps in at-node (λ node. text_set spot document value) (set-text-chars spot value) (p ∷ ps)
  edited-chars (SetAttribute [] name value) = tt
  edited-chars (SetAttribute (p ∷ ps) name value) =
      let spot = spot_from p ps in
      at-node (attribute_set same_nodes first spot document name value) (set-attribute-chars spot name value) (p ∷ ps)
  edited-chars (RemoveAttribute [] name) = tt
  edited-chars (RemoveAttribute (p ∷ ps) name) =
      let spot = spot_from p ps in at-node (attribute_removed same_nodes first spot document name) (remove-attribute-chars spot name) (p ∷ ps)
  edited-chars (Rename [] name) = tt
  edited-chars (Rename (p ∷ ps) name) =
      let spot = spot_from p ps in at-node (renamed same_nodes first spot document name) (rename-chars spot name) (p ∷ ps)

pub edit-chars : (first : ℕ) (edit : Edit) (document : Document ℕ) (new : Edited ℕ) → edited_nodes first edit document ≡ Ok new
    → HasChars document.nodes → HasChars new.nodes
edit-chars first edit document new e old = subst IfEdited e (edited-chars first document old edit)
