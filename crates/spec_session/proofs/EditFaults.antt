-- The numbers by which edits are refused: none is that of want of memory.
use Rattle.std.proofs.Common.{ℕ, ◌-◌, Bool, true, false, List, [], ◌∷◌, Option, None, Some, lit<}
use Rattle.std.specs.Prelude.{map, drop, Result, Ok, Err, if◌then◌else◌}
use Rattle.std.specs.List.{list_all, list_any, enumerate_from}
use Rattle.spec_document.specs.declared.parent.Parent.{Parent}
use Rattle.spec_document.specs.Character.{is_char}
use Rattle.spec_document.specs.Forest.{Content, Element, Text, Comment, Instruction, Plain, Forest, Document, labels}
use Rattle.spec_document.specs.Declaration.{within}
use Rattle.spec_document.specs.Place.{Found, node_at, scope_at}
use Rattle.spec_document.specs.Fault.{Fault}
use Rattle.spec_document.specs.Balance.{alone}
use Rattle.spec_document.specs.Numbering.{number_limit}
use Rattle.spec_edit.specs.Splice.{Spot}
use Rattle.spec_edit.specs.Edit.{Edit, Insert, Delete, SetText, SetAttribute, RemoveAttribute, Rename, Edited, edited, edited_document, edited_or_missing}
use Rattle.spec_edit.specs.Edit.{at_spot, by_node, by_content, unread_lines, without_lines, scope_around, depth_of, tree_with, renewed}
use Rattle.spec_edit.specs.Edit.{with_element, inserts, inserted_in, inserted_below, parent_by, is_position, deletes, text_set}
use Rattle.spec_edit.specs.Edit.{is_document_element, is_named, with_attribute, without_attribute}
use Rattle.spec_edit.specs.Edit.{makes_anew, attributes_changed, attribute_set, attribute_removed, renamed}
use Rattle.spec_session.proofs.FaultNumbers.{Above, FaultIsAbove, both, answer-above, content-above, node-above, number-above, not_utf8-above, nodes-above}

pub either : {A : Type 0} (b : Bool) (x y : Result A Fault) → FaultIsAbove x → FaultIsAbove y → FaultIsAbove (if b then x else y)
either true x y h k = h
either false x y h k = k

-- ---- What is made anew, and what stays

renewed-above : {L : Type 0} (anew : Forest ℕ → Forest L) (first : ℕ) (spot : Spot) (document : Document L) (node : Found L) (content : Content)
    → FaultIsAbove (renewed anew first spot document node content)
renewed-above anew first spot document node content =
    let tree = tree_with content node in
    answer-above _ _ (both _ _ (node-above (scope_around node) (depth_of node) (without_lines tree))
    (number-above (drop (number_limit - first) (map (λ l. l.first) (labels (without_lines tree)))))) tt

element-above : {L : Type 0} (spot : Spot) (document : Document L) (node : Found L) (content : Content)
    → FaultIsAbove (with_element spot document node content)
element-above spot document node content =
    answer-above _ _ (content-above (within content (scope_around node)) (depth_of node) (alone 0) content) tt

-- ---- Each edit where its place is

inserts-above : {L : Type 0} (anew : Forest ℕ → Forest L) (spot : Spot) (document : Document L) (nodes : Result (Forest ℕ) Fault) → FaultIsAbove nodes
    → FaultIsAbove (inserts anew spot document nodes)
inserts-above anew spot document (Err fault) h = h
inserts-above anew spot document (Ok nodes) h = tt

below-above : {L : Type 0} (anew : Forest ℕ → Forest L) (first : ℕ) (spot : Spot) (body : List (List ℕ)) (document : Document L) (node : Found L)
    (parent : Option Parent) → FaultIsAbove (inserted_below anew first spot body document node parent)
below-above anew first spot body document node None = lit< tt
below-above anew first spot body document node (Some parent) =
    either (is_position spot.position node.children) _ _ (inserts-above anew spot document _ (nodes-above (scope_at node) first parent body)) (lit< tt)

inserted-above : {L : Type 0} (anew : Forest ℕ → Forest L) (first : ℕ) (spot : Spot) (body : List (List ℕ)) (document : Document L)
    (node : Option (Found L)) → FaultIsAbove (inserted_in anew first spot body document node)
inserted-above anew first spot body document None = lit< tt
inserted-above anew first spot body document (Some node) = below-above anew first spot body document node (parent_by node.content node)

deletes-above : {L : Type 0} (spot : Spot) (document : Document L) (node : Found L) (content : Content) → FaultIsAbove (deletes spot document node content)
deletes-above spot document node content = either (is_document_element node content) _ _ (lit< tt) tt

text-above : {L : Type 0} (spot : Spot) (document : Document L) (value : List ℕ) (content : Content) → FaultIsAbove (text_set spot document value content)
text-above spot document value (Element name attributes) = lit< tt
text-above spot document value (Text text) = either (list_all is_char value) _ _ tt (lit< tt)
text-above spot document value (Comment text) = either (list_all is_char value) _ _ tt (lit< tt)
text-above spot document value (Instruction target text) = either (list_all is_char value) _ _ tt (lit< tt)

changed-above : {L : Type 0} (anew : Forest ℕ → Forest L) (first : ℕ) (spot : Spot) (document : Document L) (node : Found L) (written : List ℕ)
    (content : Content) → FaultIsAbove (attributes_changed anew first spot document node written content)
changed-above anew first spot document node written content =
    either (makes_anew written) _ _ (renewed-above anew first spot document node content) (element-above spot document node content)

set-above : {L : Type 0} (anew : Forest ℕ → Forest L) (first : ℕ) (spot : Spot) (document : Document L) (name value : List ℕ) (node : Found L)
    (content : Content) → FaultIsAbove (attribute_set anew first spot document name value node content)
set-above anew first spot document name value node (Element own attributes) =
    either (list_all is_char value) _ _ (changed-above anew first spot document node name (Element own (with_attribute name value attributes))) (lit< tt)
set-above anew first spot document name value node (Text text) = lit< tt
set-above anew first spot document name value node (Comment text) = lit< tt
set-above anew first spot document name value node (Instruction target text) = lit< tt

removed-above : {L : Type 0} (anew : Forest ℕ → Forest L) (first : ℕ) (spot : Spot) (document : Document L) (name : List ℕ) (node : Found L)
    (content : Content) → FaultIsAbove (attribute_removed anew first spot document name node content)
removed-above anew first spot document name node (Element own attributes) =
    either (list_any (is_named name) attributes) _ _
    (changed-above anew first spot document node name (Element own (without_attribute name attributes))) (lit< tt)
removed-above anew first spot document name node (Text text) = lit< tt
removed-above anew first spot document name node (Comment text) = lit< tt
removed-above anew first spot document name node (Instruction target text) = lit< tt

renamed-above : {L : Type 0} (anew : Forest ℕ → Forest L) (first : ℕ) (spot : Spot) (document : Document L) (name : List ℕ) (node : Found L)
    (content : Content) → FaultIsAbove (renamed anew first spot document name node content)
renamed-above anew first spot document name node (Element own attributes) = renewed-above anew first spot document node (Element name attributes)
renamed-above anew first spot document name node (Text text) = lit< tt
renamed-above anew first spot document name node (Comment text) = lit< tt
renamed-above anew first spot document name node (Instruction target text) = renewed-above anew first spot document node (Instruction name text)

-- ---- Each edit

pub node-found : {L : Type 0} (change : Found L → Content → Result (Edited L) Fault) (found : Option (Found L))
    → ((node : Found L) (content : Content) → FaultIsAbove (change node content)) → FaultIsAbove (by_node change found)
node-found {L} change None each = lit< tt
node-found {L} change (Some node) each = content-found node.content
  where
    content-found : (content : Option Content) → FaultIsAbove (by_content change node content)
    content-found None = lit< tt
    content-found (Some content) = each node content

pub spot-found : {L : Type 0} (path : List ℕ) (change : Spot → Result (Edited L) Fault) → ((spot : Spot) → FaultIsAbove (change spot))
    → FaultIsAbove (at_spot path change)
spot-found [] change each = lit< tt
spot-found (position ∷ positions) change each = each _

edited-above : {L : Type 0} (anew : Forest ℕ → Forest L) (first : ℕ) (edit : Edit) (document : Document L) → FaultIsAbove (edited anew first edit document)
edited-above anew first (Insert path body) document =
    spot-found path _ (λ spot. inserted-above anew first spot body document (node_at document spot.above))
edited-above anew first (Delete path) document =
    spot-found path _ (λ spot. node-found _ (node_at document path) (deletes-above spot document))
edited-above anew first (SetText path value) document =
    spot-found path _ (λ spot. node-found _ (node_at document path) (λ node. text-above spot document value))
edited-above anew first (SetAttribute path name value) document =
    spot-found path _ (λ spot. node-found _ (node_at document path) (set-above anew first spot document name value))
edited-above anew first (RemoveAttribute path name) document =
    spot-found path _ (λ spot. node-found _ (node_at document path) (removed-above anew first spot document name))
edited-above anew first (Rename path name) document =
    spot-found path _ (λ spot. node-found _ (node_at document path) (renamed-above anew first spot document name))

unread-above : (edit : Edit) → Above (unread_lines edit)
unread-above (Insert path body) = not_utf8-above (enumerate_from 1 body)
unread-above (Delete path) = tt
unread-above (SetText path value) = tt
unread-above (SetAttribute path name value) = tt
unread-above (RemoveAttribute path name) = tt
unread-above (Rename path name) = tt

missing-above : (made : ℕ) (edit : Edit) (found : Option Plain) → FaultIsAbove (edited_or_missing made edit found)
missing-above made edit None = lit< tt
missing-above made edit (Some tree) = edited-above _ made edit _

-- no refusal of an edit has the number of want of memory
pub edit-above : (made : ℕ) (edit : Edit) (found : Option Plain) → FaultIsAbove (edited_document made edit found)
edit-above made edit found = answer-above _ _ (unread-above edit) (missing-above made edit found)
