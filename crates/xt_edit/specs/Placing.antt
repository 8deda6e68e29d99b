-- Nodes that come to another parent: how they stand there, and their faults.
use Rattle.std.specs.Prelude.{ℕ, ◌≡◌, ◌+◌, ◌≤◌, ◌++◌, Bool, true, false, not, List, [], map, bytes_eq, codes, Option, None, Some, if◌then◌else◌}
use Rattle.std.specs.List.{list_all}
use Rattle.spec_document.specs.Balance.{LineNumbers, alone}
use Rattle.spec_document.specs.Character.{is_space}
use Rattle.spec_document.specs.Document.{elements_beside}
use Rattle.spec_document.specs.Fault.{Fault}
use Rattle.spec_document.specs.Forest.{Content, Element, Text, Comment, Instruction, Document, Forest, Empty, Node, labels, size}
use Rattle.spec_document.specs.NodeFaults.{node_faults}
use Rattle.spec_document.specs.Numbering.{number_faults, number_limit}
use Rattle.spec_document.specs.Place.{scope_at}
use Rattle.spec_document.specs.Top.{kept}
use Rattle.spec_edit.specs.Edit.{Edited, depth_of, without_lines}
use Rattle.spec_move.specs.Move.{move_faults, placed}
use Rattle.xt_edit.specs.Moving.{new_parent, tree_in}
use Rattle.xt_edit.specs.Seam.{is_text}
use Rattle.xt_edit.specs.declared.relocation.Ends.{Ends}
use Rattle.xt_tree.specs.View.{tree_of}

-- a text does not stand directly below a root, which has so many elements besides
abbrev pub is_dropped : (beside : Option ℕ) → Content → Bool
is_dropped None content = false
is_dropped (Some others) content = is_text content

-- whether a node is made anew
abbrev pub gets_numbers : (keeps : Bool) → (beside : Option ℕ) → Content → Bool
gets_numbers true beside content = false
gets_numbers false beside content = not (is_dropped beside content)

-- no text but white space
abbrev pub is_silent : Content → Bool
is_silent (Element name attributes) = true
is_silent (Text text) = list_all is_space text
is_silent (Comment text) = true
is_silent (Instruction target text) = true

-- a node of this content, without lines of a body
abbrev pub leaf : Content → Forest LineNumbers
leaf content = Node (alone 0) content Empty Empty

-- what the value of xml:space says of white space, by whether it is preserved outside
abbrev pub space_said : (outside : Bool) → List ℕ → Bool
space_said outside value =
    if bytes_eq value (codes "preserve") then true else (if bytes_eq value (codes "default") then false else outside)

-- the nodes as they stand at the new place
abbrev pub placed_in : (keeps : Bool) → (first : ℕ) → Ends → Edited ℕ
placed_in keeps first ends = placed (λ nodes. nodes) keeps first (kept (elements_beside ends.to.parent) (tree_in ends.site.node.now))

-- their faults there, and those of them that are no matter of the root or of the levels
abbrev pub faults_in : Document ℕ → (keeps : Bool) → (first : ℕ) → Ends → List Fault
faults_in document keeps first ends =
    move_faults keeps first (elements_beside ends.to.parent) (new_parent document ends) (tree_in ends.site.node.now)

abbrev pub branch_faults_in : Document ℕ → (keeps : Bool) → (first : ℕ) → Ends → List Fault
branch_faults_in document keeps first ends =
    let new = new_parent document ends in
    let tree = without_lines (tree_in ends.site.node.now) in
    node_faults (scope_at new) (depth_of new + 1) tree
    ++ (if keeps then [] else number_faults first (map (λ l. l.first) (labels (kept (elements_beside ends.to.parent) tree))))

-- there is a number for each node that is made anew
abbrev pub HasRoom : (keeps : Bool) → (first : ℕ) → Ends → Type 0
HasRoom keeps first ends =
    keeps ≡ false → is_dropped (elements_beside ends.to.parent) (tree_of ends.site.node.now).content ≡ false
    → first + size (tree_in ends.site.node.now) ≤ number_limit
