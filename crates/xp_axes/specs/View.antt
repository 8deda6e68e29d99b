-- The axes and node tests of a numbered document.
use Rattle.std.specs.Prelude.{ℕ, ◌≡◌, Bool, false, List, [], map, filter, Option, None, Some, is_some, IsTrue}
use Rattle.std.specs.List.{find, list_all}
use Rattle.spec_document.specs.declared.axis.Axis.{Axis}
use Rattle.spec_document.specs.Forest.{Document, Content, Forest, Empty, Node}
use Rattle.spec_document.specs.Place.{TreeNode, found_in}
use Rattle.spec_document.specs.Order.{Entry, entries_of, way_to}
use Rattle.spec_document.specs.Axis.{is_on}
use Rattle.spec_expression.specs.Syntax.{Test}
use Rattle.spec_meaning.specs.Step.{passes}
use Rattle.xt_tree.specs.View.{item_of, itself}
use Rattle.spec_node.specs.Naming.{ref_of, same_ref}
use Rattle.spec_node.specs.declared.node_ref.NodeRef.{NodeRef}

-- the nodes of an axis, in document order
abbrev pub axis_from : List (Entry ℕ) → Axis → Option (Entry ℕ) → List NodeRef
axis_from entries axis None = []
axis_from entries axis (Some node) = map ref_of (filter (λ other. is_on axis (way_to node.place) (way_to other.place)) entries)

abbrev pub on_axis : Document ℕ → Axis → NodeRef → List NodeRef
on_axis document axis node = axis_from (entries_of document) axis (find (λ entry. same_ref node (ref_of entry)) (entries_of document))

-- whether what a name stands for passes a node test
abbrev pub is_passing : Document ℕ → Axis → Test → NodeRef → Bool
is_passing document axis test node = elim (item_of document node) [ None ↦ false | Some item ↦ passes axis test item ]

-- each stands for a node
abbrev pub AreNodes : Document ℕ → List NodeRef → Type 0
AreNodes document nodes = IsTrue (list_all (λ node. is_some (item_of document node)) nodes)

-- the node that the number stands for has this content and these children
abbrev pub IsNodeOf : Document ℕ → ℕ → Content → Forest ℕ → Type 0
IsNodeOf document number content children =
    (above : List Content) × (item_of document (itself number) ≡ Some (TreeNode (found_in above number content children)))

-- each of these siblings, and each node below them, is the one that its number stands for
abbrev pub AreNodesOf : Document ℕ → Forest ℕ → Type 0
AreNodesOf document Empty = Unit {0}
AreNodesOf document (Node number content children siblings) =
    IsNodeOf document number content children × AreNodesOf document children × AreNodesOf document siblings
