-- How the nodes of a document's listing are named.
use Rattle.std.specs.Prelude.{ℕ, ◌==◌, Bool, true, false, ◌&&◌}
use Rattle.spec_document.specs.Place.{Ending, Itself, AtAttribute, AtNamespace, Item, TreeNode, AttributeNode, NamespaceNode}
use Rattle.spec_document.specs.Order.{Entry}
use Rattle.spec_node.specs.declared.node_ref.NodeRef.{NodeRef}
use Rattle.spec_node.specs.declared.node_ref.Part.{Part}
use Rattle.spec_node.specs.declared.node_ref.Part.TheVariants as part

-- the number of the node, or of the element that the attribute or namespace node belongs to
abbrev pub number_of : Item ℕ → ℕ
number_of (TreeNode node) = node.label
number_of (AttributeNode element attribute) = element.label
number_of (NamespaceNode element prefix uri) = element.label

abbrev pub part_at : Ending → ℕ → Part
part_at Itself number = part.Itself
part_at (AtAttribute position) number = part.Attribute number
part_at (AtNamespace prefix) number = part.Namespace number

abbrev pub ref_of : Entry ℕ → NodeRef
ref_of entry = record { node = record { number = number_of entry.item }; part = part_at entry.place.ending entry.number }

abbrev pub same_part : Part → Part → Bool
same_part part.Itself part.Itself = true
same_part (part.Attribute m) (part.Attribute n) = m == n
same_part (part.Namespace m) (part.Namespace n) = m == n
same_part _ _ = false

-- whether two names are of one node
abbrev pub same_ref : NodeRef → NodeRef → Bool
same_ref a b = (a.node.number == b.node.number) && same_part a.part b.part
