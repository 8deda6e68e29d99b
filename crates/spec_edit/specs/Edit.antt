-- Edits of a document by path: the document afterwards, or the refusal that is answered. Each edit is defined once for any labels: what is made
-- gets labels from its numbers, and with all labels forgotten this is the edit of a plain document.
--     edited             what an edit makes of a document
--     edited_document    the same where the document may be missing
use Rattle.std.specs.Prelude.{ℕ, ◌+◌, ◌-◌, ◌++◌, ◌==◌, Bool, true, false, ◌&&◌, not, nat_le, List, [], ◌∷◌, length, map, drop, Option, None, Some, Result, Ok, Err, if◌then◌else◌, bytes_eq, codes}
use Rattle.std.specs.List.{list_all, list_any, filter, enumerate_from}
use Rattle.spec_document.specs.declared.parent.Parent.{Parent}
use Rattle.spec_document.specs.declared.parent.Parent.TheVariants as parent
use Rattle.spec_document.specs.declared.usage.AttributeUse.TheVariants.{Declares, Names, NoName}
use Rattle.spec_document.specs.Character.{is_char}
use Rattle.spec_document.specs.Scope.{Scope, root_scope}
use Rattle.spec_document.specs.Forest.{Written, Content, Element, Text, Comment, Instruction, Plain, Forest, Empty, Node, Document, plain, size, labels, numbered}
use Rattle.spec_document.specs.Declaration.{use_of, within, scope_of}
use Rattle.spec_document.specs.Place.{Found, node_at, scope_at}
use Rattle.spec_document.specs.Fault.{Fault, answer_of}
use Rattle.spec_document.specs.Balance.{LineNumbers, alone}
use Rattle.spec_document.specs.Body.{not_utf8}
use Rattle.spec_document.specs.NodeFaults.{content_faults, node_faults}
use Rattle.spec_document.specs.Numbering.{number_faults}
use Rattle.spec_document.specs.Document.{nodes_of}
use Rattle.spec_edit.specs.Splice.{Spot, spot_of, children_changed, content_replaced, replaced, inserted, deleted, sibling_count}

-- what is asked of a document. Positions of a path count all nodes, from 1
pub data Edit : Type 0 where
  -- the nodes of the body's lines come before the node at the path, or after the last child
  Insert : (path : List ℕ) → (body : List (List ℕ)) → Edit
  -- the node goes, with all below it
  Delete : (path : List ℕ) → Edit
  -- the content of a text, comment or processing instruction
  SetText : (path value : List ℕ) → Edit
  -- the attribute, or declaration, of this written name: in its place, or last
  SetAttribute : (path name value : List ℕ) → Edit
  RemoveAttribute : (path name : List ℕ) → Edit
  -- the name of an element, or the target of a processing instruction
  Rename : (path name : List ℕ) → Edit

-- what is below the root afterwards, and how many nodes were made, new or anew
pub record Edited (L : Type 0) : Type 0 where
  pub nodes : Forest L
  pub made : ℕ

-- the labels forgotten
abbrev pub without_labels : {L : Type 0} → Result (Edited L) Fault → Result (Edited (Unit {0})) Fault
without_labels (Ok new) = Ok (record { nodes = plain new.nodes; made = new.made })
without_labels (Err fault) = Err fault

-- refused by this number, at no line of a body
abbrev pub refused : {L : Type 0} → ℕ → Result (Edited L) Fault
refused number = Err (record { number = number; line = 0 })

-- ---- Nodes that are made anew

-- without lines of a body
abbrev pub without_lines : {L : Type 0} → Forest L → Forest LineNumbers
without_lines Empty = Empty
without_lines (Node label content children siblings) = Node (alone 0) content (without_lines children) (without_lines siblings)

-- the scope around a node, and how deep it stands
abbrev pub scope_around : {L : Type 0} → Found L → Scope
scope_around node = scope_of root_scope (drop 1 node.above)

abbrev pub depth_of : {L : Type 0} → Found L → ℕ
depth_of node = length node.above

-- the node with this content in place of its own, and what is below it
abbrev pub tree_with : {L : Type 0} → Content → Found L → Plain
tree_with content node = Node tt content (plain node.children) Empty

-- the faults of a tree that is made anew where this node stands: its own and those of what is below it, and of their numbers from `first` on
abbrev pub tree_faults : {L : Type 0} → ℕ → Found L → Plain → List Fault
tree_faults first node tree =
    node_faults (scope_around node) (depth_of node) (without_lines tree) ++ number_faults first (map (λ l. l.first) (labels (without_lines tree)))

-- the node is made anew with this content, and all below it
abbrev pub renewed : {L : Type 0} → (Forest ℕ → Forest L) → ℕ → Spot → Document L → Found L → Content → Result (Edited L) Fault
renewed anew first spot document node content =
    let tree = tree_with content node in
    answer_of (tree_faults first node tree) (Ok (record {
      nodes = children_changed (replaced (spot.position - 1) spot.position (anew (numbered first tree))) spot.above document.nodes;
      made = size tree;
    }))

-- the node stays, and has this content
abbrev pub with_content : {L : Type 0} → Spot → Document L → Content → Edited L
with_content spot document content =
    record { nodes = children_changed (content_replaced spot.position content) spot.above document.nodes; made = 0 }

-- the same for an element, whose attributes are judged
abbrev pub with_element : {L : Type 0} → Spot → Document L → Found L → Content → Result (Edited L) Fault
with_element spot document node content =
    answer_of (content_faults (within content (scope_around node)) (depth_of node) (alone 0) content) (Ok (with_content spot document content))

-- ---- Insert

-- what the parent is to nodes that are to stand below it: only a root and an element may have any
abbrev pub is_element : Content → Bool
is_element (Element name attributes) = true
is_element (Text text) = false
is_element (Comment text) = false
is_element (Instruction target text) = false

abbrev pub element_count : {L : Type 0} → Forest L → ℕ
element_count Empty = 0
element_count (Node label content children siblings) = (if is_element content then 1 else 0) + element_count siblings

abbrev pub parent_by : {L : Type 0} → Option Content → Found L → Option Parent
parent_by None node = Some (parent.Root (element_count node.children))
parent_by (Some content) node = if is_element content then Some (parent.Element (depth_of node)) else None

-- the body's nodes are put there
abbrev pub inserts : {L : Type 0} → (Forest ℕ → Forest L) → Spot → Document L → Result (Forest ℕ) Fault → Result (Edited L) Fault
inserts anew spot document (Err fault) = Err fault
inserts anew spot document (Ok nodes) =
    Ok (record { nodes = children_changed (inserted (spot.position - 1) (anew nodes)) spot.above document.nodes; made = size nodes })

-- a position that a child has, or the one after the last
abbrev pub is_position : {L : Type 0} → ℕ → Forest L → Bool
is_position position children = nat_le 1 position && nat_le position (sibling_count children + 1)

abbrev pub inserted_below : {L : Type 0} → (Forest ℕ → Forest L) → ℕ → Spot → List (List ℕ) → Document L → Found L → Option Parent → Result (Edited L) Fault
inserted_below anew first spot body document node None = refused 7
inserted_below anew first spot body document node (Some parent) =
    if is_position spot.position node.children then inserts anew spot document (nodes_of (scope_at node) first parent body) else refused 6

abbrev pub inserted_in : {L : Type 0} → (Forest ℕ → Forest L) → ℕ → Spot → List (List ℕ) → Document L → Option (Found L) → Result (Edited L) Fault
inserted_in anew first spot body document None = refused 6
inserted_in anew first spot body document (Some node) = inserted_below anew first spot body document node (parent_by node.content node)

-- ---- Delete

-- the document element stays
abbrev pub is_document_element : {L : Type 0} → Found L → Content → Bool
is_document_element node content = (depth_of node == 1) && is_element content

abbrev pub deletes : {L : Type 0} → Spot → Document L → Found L → Content → Result (Edited L) Fault
deletes spot document node content =
    if is_document_element node content then refused 9
    else Ok (record { nodes = children_changed (deleted (spot.position - 1)) spot.above document.nodes; made = 0 })

-- ---- The content of a text, comment or processing instruction

-- an empty text vanishes
abbrev pub with_text : {L : Type 0} → Spot → Document L → List ℕ → Edited L
with_text spot document [] = record { nodes = children_changed (deleted (spot.position - 1)) spot.above document.nodes; made = 0 }
with_text spot document (c ∷ cs) = with_content spot document (Text (c ∷ cs))

abbrev pub text_set : {L : Type 0} → Spot → Document L → List ℕ → Content → Result (Edited L) Fault
text_set spot document value (Element name attributes) = refused 7
text_set spot document value (Text text) = if list_all is_char value then Ok (with_text spot document value) else refused 8
text_set spot document value (Comment text) = if list_all is_char value then Ok (with_content spot document (Comment value)) else refused 8
text_set spot document value (Instruction target text) =
    if list_all is_char value then Ok (with_content spot document (Instruction target value)) else refused 8

-- ---- Attributes and declarations

-- whether what is written under this name is of this name
abbrev pub is_named : List ℕ → Written → Bool
is_named name attribute = bytes_eq attribute.name name

abbrev pub set_in : (name value : List ℕ) → Written → Written
set_in name value attribute = if is_named name attribute then record { name = name; value = value } else attribute

abbrev pub with_attribute : (name value : List ℕ) → List Written → List Written
with_attribute name value attributes =
    if list_any (is_named name) attributes then map (set_in name value) attributes else attributes ++ record { name = name; value = value } ∷ []

abbrev pub without_attribute : List ℕ → List Written → List Written
without_attribute name attributes = filter (λ a. not (is_named name a)) attributes

-- a declaration says what names below it mean, and xml:space which white space counts there (XML 1.0, section 2.10): where one of these changes,
-- the element is made anew
abbrev pub makes_anew : List ℕ → Bool
makes_anew name = elim (use_of name) [ Declares prefix ↦ true | Names read ↦ bytes_eq name (codes "xml:space") | NoName ↦ false ]

abbrev pub attributes_changed : {L : Type 0} → (Forest ℕ → Forest L) → ℕ → Spot → Document L → Found L → (written : List ℕ) → Content → Result (Edited L) Fault
attributes_changed anew first spot document node written content =
    if makes_anew written then renewed anew first spot document node content else with_element spot document node content

abbrev pub attribute_set : {L : Type 0} → (Forest ℕ → Forest L) → ℕ → Spot → Document L → (name value : List ℕ) → Found L → Content → Result (Edited L) Fault
attribute_set anew first spot document name value node (Element own attributes) =
    if list_all is_char value then attributes_changed anew first spot document node name (Element own (with_attribute name value attributes)) else refused 8
attribute_set anew first spot document name value node (Text text) = refused 7
attribute_set anew first spot document name value node (Comment text) = refused 7
attribute_set anew first spot document name value node (Instruction target text) = refused 7

abbrev pub attribute_removed : {L : Type 0} → (Forest ℕ → Forest L) → ℕ → Spot → Document L → List ℕ → Found L → Content → Result (Edited L) Fault
attribute_removed anew first spot document name node (Element own attributes) =
    if list_any (is_named name) attributes then attributes_changed anew first spot document node name (Element own (without_attribute name attributes))
    else refused 6
attribute_removed anew first spot document name node (Text text) = refused 7
attribute_removed anew first spot document name node (Comment text) = refused 7
attribute_removed anew first spot document name node (Instruction target text) = refused 7

-- ---- Names

abbrev pub renamed : {L : Type 0} → (Forest ℕ → Forest L) → ℕ → Spot → Document L → List ℕ → Found L → Content → Result (Edited L) Fault
renamed anew first spot document name node (Element own attributes) = renewed anew first spot document node (Element name attributes)
renamed anew first spot document name node (Text text) = refused 7
renamed anew first spot document name node (Comment text) = refused 7
renamed anew first spot document name node (Instruction target text) = renewed anew first spot document node (Instruction name text)

-- ---- Edits

-- of the node at a path that is not that of the root
abbrev pub by_content : {L : Type 0} → (Found L → Content → Result (Edited L) Fault) → Found L → Option Content → Result (Edited L) Fault
by_content change node None = refused 7
by_content change node (Some content) = change node content

abbrev pub by_node : {L : Type 0} → (Found L → Content → Result (Edited L) Fault) → Option (Found L) → Result (Edited L) Fault
by_node change None = refused 6
by_node change (Some node) = by_content change node node.content

abbrev pub at_spot : {L : Type 0} → List ℕ → (Spot → Result (Edited L) Fault) → Result (Edited L) Fault
at_spot path change = elim (spot_of path) [ None ↦ refused 7 | Some spot ↦ change spot ]

-- what the edit makes of the document, where what is made is numbered from `first` on and gets its labels by these numbers; else the refusal of
-- the least number
abbrev pub edited : {L : Type 0} → (anew : Forest ℕ → Forest L) → (first : ℕ) → Edit → Document L → Result (Edited L) Fault
edited anew first (Insert path body) document =
    at_spot path (λ spot. inserted_in anew first spot body document (node_at document spot.above))
edited anew first (Delete path) document =
    at_spot path (λ spot. by_node (deletes spot document) (node_at document path))
edited anew first (SetText path value) document =
    at_spot path (λ spot. by_node (λ node. text_set spot document value) (node_at document path))
edited anew first (SetAttribute path name value) document =
    at_spot path (λ spot. by_node (attribute_set anew first spot document name value) (node_at document path))
edited anew first (RemoveAttribute path name) document =
    at_spot path (λ spot. by_node (attribute_removed anew first spot document name) (node_at document path))
edited anew first (Rename path name) document =
    at_spot path (λ spot. by_node (renamed anew first spot document name) (node_at document path))

-- the edit of a document whose nodes are numbered
abbrev pub edited_nodes : ℕ → Edit → Document ℕ → Result (Edited ℕ) Fault
edited_nodes first edit document = edited (λ nodes. nodes) first edit document

-- the same where labels are not asked. So many nodes were made so far
abbrev pub edited_plain : ℕ → Edit → Plain → Result (Edited (Unit {0})) Fault
edited_plain made edit tree = edited plain made edit (record { root = tt; nodes = tree })

-- ---- Where the document may be missing

-- 2: a line of the body that is not UTF-8
abbrev pub unread_lines : Edit → List Fault
unread_lines (Insert path body) = not_utf8 (enumerate_from 1 body)
unread_lines (Delete path) = []
unread_lines (SetText path value) = []
unread_lines (SetAttribute path name value) = []
unread_lines (RemoveAttribute path name) = []
unread_lines (Rename path name) = []

abbrev pub edited_or_missing : ℕ → Edit → Option Plain → Result (Edited (Unit {0})) Fault
edited_or_missing made edit None = refused 5
edited_or_missing made edit (Some tree) = edited_plain made edit tree

abbrev pub edited_document : ℕ → Edit → Option Plain → Result (Edited (Unit {0})) Fault
edited_document made edit found = answer_of (unread_lines edit) (edited_or_missing made edit found)
