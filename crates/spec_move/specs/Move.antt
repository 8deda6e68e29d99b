-- A node moved within its document: the document afterwards, or the refusal that is answered. It is defined once for any labels, as other
-- edits are: what is made anew gets labels from its numbers, and with all labels forgotten this is the move of a plain document.
--     moved              what a move makes of a document
--     moved_document     the same where the document may be missing
use Rattle.std.specs.Prelude.{ℕ, ◌+◌, ◌-◌, ◌==◌, Bool, true, false, ◌&&◌, not, nat_lt, List, [], ◌∷◌, ◌++◌, map, Option, None, Some, Result, Ok, if◌then◌else◌, bytes_eq, codes, is_none}
use Rattle.std.specs.FinMap.{entries}
use Rattle.spec_document.specs.Scope.{Scope}
use Rattle.spec_document.specs.Forest.{Written, Content, Element, Text, Comment, Instruction, Plain, Forest, Empty, Node, Document, plain, size, labels, numbered, height}
use Rattle.spec_document.specs.declared.parent.Parent.{Parent}
use Rattle.spec_document.specs.Place.{Found, node_at, scope_at}
use Rattle.spec_document.specs.Fault.{Fault, fault_if, answer_of}
use Rattle.spec_document.specs.NodeFaults.{node_faults, greatest_depth}
use Rattle.spec_document.specs.Numbering.{number_faults}
use Rattle.spec_document.specs.Top.{top_faults, kept}
use Rattle.spec_document.specs.Document.{elements_beside}
use Rattle.spec_edit.specs.Splice.{Spot, spot_of, first_siblings, later_siblings, met, inserted, deleted, children_changed, sibling_count}
use Rattle.spec_edit.specs.Edit.{Edited, refused, at_spot, by_node, without_lines, depth_of, parent_by, is_position}

-- ---- Paths

abbrev pub is_path : (path other : List ℕ) → Bool
is_path path other = bytes_eq path other

-- whether the path leads to the node that the other leads to, or to one below it
abbrev pub goes_through : (path other : List ℕ) → Bool
goes_through path [] = true
goes_through [] (position ∷ positions) = false
goes_through (here ∷ path) (position ∷ positions) = (here == position) && goes_through path positions

-- ---- Whether the paths are such as a move has: 6 and 7

-- the node is there, and it is not the root
abbrev pub origin_faults : {L : Type 0} → Document L → List ℕ → List Fault
origin_faults document [] = fault_if true 7 0
origin_faults document (position ∷ positions) = fault_if (is_none (node_at document (position ∷ positions))) 6 0

-- the position is one that a child has, or the one after the last, of a root or an element
abbrev pub position_faults : {L : Type 0} → Spot → Found L → Option Parent → List Fault
position_faults spot node None = fault_if true 7 0
position_faults spot node (Some parent) = fault_if (not (is_position spot.position node.children)) 6 0

abbrev pub parent_faults : {L : Type 0} → Spot → Option (Found L) → List Fault
parent_faults spot None = fault_if true 6 0
parent_faults spot (Some node) = position_faults spot node (parent_by node.content node)

abbrev pub target_faults : {L : Type 0} → Document L → Option Spot → List Fault
target_faults document None = fault_if true 7 0
target_faults document (Some spot) = parent_faults spot (node_at document spot.above)

-- ---- Whether the node keeps its label, with those of what is below it: where the declarations in scope (Namespaces in XML 1.0, section 6) and
-- the xml:space in force (XML 1.0, section 2.10) are what they were

-- whether xml:space preserves white space inside an element with these attributes, by whether it does so outside
abbrev pub space_by : (outside : Bool) → List Written → Bool
space_by outside [] = outside
space_by outside (a ∷ more) =
    if bytes_eq a.name (codes "xml:space") then (if bytes_eq a.value (codes "preserve") then true else (if bytes_eq a.value (codes "default") then false else outside))
    else space_by outside more

abbrev pub preserves_inside : (outside : Bool) → Content → Bool
preserves_inside outside (Element name attributes) = space_by outside attributes
preserves_inside outside (Text text) = outside
preserves_inside outside (Comment text) = outside
preserves_inside outside (Instruction target text) = outside

-- inside the first of these, each of which is a child of the next
abbrev pub preserves : List Content → Bool
preserves [] = false
preserves (content ∷ above) = preserves_inside (preserves above) content

abbrev pub same_truth : Bool → Bool → Bool
same_truth true other = other
same_truth false other = not other

-- two scopes are the same where the same prefixes are declared in both, each for the same URI. A default namespace that is taken back by an
-- empty declaration counts as declared
abbrev pub same_entries : (one other : List (List ℕ × List ℕ)) → Bool
same_entries [] [] = true
same_entries [] (b ∷ other) = false
same_entries (a ∷ one) [] = false
same_entries (a ∷ one) (b ∷ other) = bytes_eq a.0 b.0 && bytes_eq a.1 b.1 && same_entries one other

abbrev pub same_scope : Scope → Scope → Bool
same_scope one other = same_entries (entries one) (entries other)

-- by the parents before and after
abbrev pub keeps_labels : {L : Type 0} → (before after : Found L) → Bool
keeps_labels before after = same_scope (scope_at before) (scope_at after) && same_truth (preserves before.above) (preserves after.above)

-- ---- The document afterwards

-- these others in place of the siblings from the index `from` up to, but not including, `to`; texts that become neighbours are one
abbrev pub put_in : {L : Type 0} → (from to : ℕ) → (others siblings : Forest L) → Forest L
put_in from to others siblings = met (first_siblings from siblings) (met others (later_siblings to siblings))

-- the siblings from one index up to, but not including, another
abbrev pub siblings_between : {L : Type 0} → (from to : ℕ) → Forest L → Forest L
siblings_between from to siblings = first_siblings (to - from) (later_siblings from siblings)

-- within one parent: the sibling at one index goes, and these nodes come before the sibling that was at another
abbrev pub rearranged : {L : Type 0} → (from to : ℕ) → (nodes siblings : Forest L) → Forest L
rearranged from to nodes siblings =
    if nat_lt from to then put_in from to (met (siblings_between (from + 1) to siblings) nodes) siblings
    else put_in to (from + 1) (met nodes (siblings_between to from siblings)) siblings

-- A path once the sibling at a spot was taken away: where it goes through a later sibling, the position of that one is less by as many as there
-- are fewer siblings, by one, or by two where texts met
abbrev pub position_without : (gone fewer position : ℕ) → ℕ
position_without gone fewer position = if nat_lt gone position then position - fewer else position

abbrev pub path_below : (above : List ℕ) → (gone fewer : ℕ) → List ℕ → List ℕ
path_below [] gone fewer [] = []
path_below [] gone fewer (position ∷ positions) = position_without gone fewer position ∷ positions
path_below (here ∷ above) gone fewer [] = []
path_below (here ∷ above) gone fewer (position ∷ positions) =
    position ∷ (if (here == position) then path_below above gone fewer positions else positions)

-- by how many there are fewer siblings
abbrev pub fewer_by : {L : Type 0} → ℕ → Forest L → ℕ
fewer_by position siblings = sibling_count siblings - sibling_count (deleted (position - 1) siblings)

abbrev pub path_without : {L : Type 0} → Spot → (old : Found L) → List ℕ → List ℕ
path_without spot old path = path_below spot.above spot.position (fewer_by spot.position old.children) path

-- to another parent: the node is taken away, and then these nodes are put in
abbrev pub carried : {L : Type 0} → (from to : Spot) → (old : Found L) → (nodes : Forest L) → Document L → Forest L
carried from to old nodes document =
    children_changed (inserted (to.position - 1) nodes) (path_without from old to.above)
    (children_changed (deleted (from.position - 1)) from.above document.nodes)

-- ---- What is judged where the parent is another: the node with all below it, at its new place

abbrev pub tree_of : {L : Type 0} → Found L → Content → Forest L
tree_of node content = Node node.label content node.children Empty

-- 11: a node that would stand more than one level below the deepest that an element may. In a document only elements have nodes below them, so
-- there an element is too deep as well
abbrev pub height_faults : {L : Type 0} → (new : Found L) → Forest L → List Fault
height_faults new tree = fault_if (nat_lt (greatest_depth + 1) (depth_of new + height tree)) 11 0

-- 9 to 11 and 14, and 12 where the nodes are made anew
abbrev pub move_faults : {L : Type 0} → (keeps : Bool) → (first : ℕ) → (beside : Option ℕ) → (new : Found L) → Forest L → List Fault
move_faults keeps first beside new tree =
    top_faults beside (without_lines tree)
    ++ node_faults (scope_at new) (depth_of new + 1) (without_lines tree)
    ++ height_faults new tree
    ++ (if keeps then [] else number_faults first (map (λ l. l.first) (labels (kept beside (without_lines tree)))))

-- ---- Moves

-- the nodes as they stand at the new place, and how many were made anew
abbrev pub placed : {L : Type 0} → (Forest ℕ → Forest L) → (keeps : Bool) → (first : ℕ) → Forest L → Edited L
placed anew true first nodes = record { nodes = nodes; made = 0 }
placed anew false first nodes = record { nodes = anew (numbered first (plain nodes)); made = size nodes }

abbrev pub with_placed : {L : Type 0} → (from to : Spot) → (old : Found L) → Document L → Edited L → Edited L
with_placed from to old document new = record { nodes = carried from to old new.nodes document; made = new.made }

-- to another parent. White space does not stand under a root
abbrev pub moved_below : {L : Type 0} → (Forest ℕ → Forest L) → ℕ → (from to : Spot) → Document L → (old new : Found L) → Forest L → Parent → Result (Edited L) Fault
moved_below anew first from to document old new tree parent =
    let keeps = keeps_labels old new in
    let beside = elements_beside parent in
    answer_of (move_faults keeps first beside new tree) (Ok (with_placed from to old document (placed anew keeps first (kept beside tree))))

-- 15: the new parent is the node itself or stands below it
abbrev pub moved_between : {L : Type 0} → (Forest ℕ → Forest L) → ℕ → (path : List ℕ) → (from to : Spot) → Document L → (old new : Found L) → Forest L → Option Parent → Result (Edited L) Fault
moved_between anew first path from to document old new tree None = refused 7
moved_between anew first path from to document old new tree (Some parent) =
    if goes_through to.above path then refused 15 else moved_below anew first from to document old new tree parent

-- by the parents before and after
abbrev pub moved_from : {L : Type 0} → (Forest ℕ → Forest L) → ℕ → (path : List ℕ) → (from to : Spot) → Document L → Forest L → (old new : Option (Found L)) → Result (Edited L) Fault
moved_from anew first path from to document tree None new = refused 6
moved_from anew first path from to document tree (Some old) None = refused 6
moved_from anew first path from to document tree (Some old) (Some new) =
    moved_between anew first path from to document old new tree (parent_by new.content new)

-- within one parent nothing is judged: names, declarations and depths are what they were
abbrev pub moved_at : {L : Type 0} → (Forest ℕ → Forest L) → ℕ → (path : List ℕ) → (from to : Spot) → Document L → Forest L → Result (Edited L) Fault
moved_at anew first path from to document tree =
    if is_path from.above to.above
    then Ok (record { nodes = children_changed (rearranged (from.position - 1) (to.position - 1) tree) from.above document.nodes; made = 0 })
    else moved_from anew first path from to document tree (node_at document from.above) (node_at document to.above)

-- where both paths are such as a move has
abbrev pub moved_there : {L : Type 0} → (Forest ℕ → Forest L) → ℕ → (path other : List ℕ) → Document L → Result (Edited L) Fault
moved_there anew first path other document =
    at_spot path (λ from. at_spot other (λ to. by_node (λ node content. moved_at anew first path from to document (tree_of node content))
    (node_at document path)))

-- Where the paths are the same, the node stays where it is
abbrev pub moved : {L : Type 0} → (anew : Forest ℕ → Forest L) → (first : ℕ) → (path other : List ℕ) → Document L → Result (Edited L) Fault
moved anew first path other document =
    answer_of (origin_faults document path ++ target_faults document (spot_of other))
    (if is_path path other then Ok (record { nodes = document.nodes; made = 0 }) else moved_there anew first path other document)

-- the move in a document whose nodes are numbered
abbrev pub moved_nodes : ℕ → (path other : List ℕ) → Document ℕ → Result (Edited ℕ) Fault
moved_nodes first path other document = moved (λ nodes. nodes) first path other document

-- the same where labels are not asked. So many nodes were made so far
abbrev pub moved_plain : ℕ → (path other : List ℕ) → Plain → Result (Edited (Unit {0})) Fault
moved_plain made path other tree = moved plain made path other (record { root = tt; nodes = tree })

-- 5: there is no such document
abbrev pub moved_document : ℕ → (path other : List ℕ) → Option Plain → Result (Edited (Unit {0})) Fault
moved_document made path other None = refused 5
moved_document made path other (Some tree) = moved_plain made path other tree
