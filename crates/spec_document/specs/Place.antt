-- Nodes and their places, and what XPath sees of a node: its kind, its names, its string-value (XPath 1.0, section 5).
use Rattle.std.specs.Prelude.{ℕ, ◌-◌, Bool, not, ◌==◌, List, [], ◌∷◌, Option, None, Some, if◌then◌else◌, bytes_eq}
use Rattle.std.specs.Option.{option_map, option_and_then, option_or}
use Rattle.std.specs.List.{filter, find}
use Rattle.spec_document.specs.declared.kind.Kind.{Kind}
use Rattle.spec_document.specs.declared.kind.Kind.TheVariants as kind
use Rattle.spec_document.specs.Name.{qname_of, Expanded}
use Rattle.spec_document.specs.Scope.{Scope, root_scope}
use Rattle.spec_document.specs.Forest.{Written, Content, Element, Text, Comment, Instruction, Forest, Empty, Node, Document, texts_in}
use Rattle.spec_document.specs.Declaration.{is_declaration, scope_of, namespaces_in, element_name, attribute_name}

-- how a place ends: at the node itself, at one of its attributes, or at one of its namespace nodes.
-- Attributes are numbered from 1 in their order; declarations are no attributes
pub data Ending : Type 0 where
  Itself : Ending
  AtAttribute : (number : ℕ) → Ending
  AtNamespace : (prefix : List ℕ) → Ending

-- the child positions on the way down from the root, each from 1, and how the place ends
pub record Place : Type 0 where
  pub positions : List ℕ
  pub ending : Ending

-- a node of a tree, with what stands above it. The root has no content
pub record Found (L : Type 0) : Type 0 where
  pub label : L
  pub content : Option Content
  pub children : Forest L
  -- the contents of the node and of those above it, its own first
  pub above : List Content

abbrev pub root_of : {L : Type 0} → Document L → Found L
root_of document = record { label = document.root; content = None; children = document.nodes; above = [] }

abbrev pub found_in : {L : Type 0} → List Content → L → Content → Forest L → Found L
found_in above label content children = record { label = label; content = Some content; children = children; above = content ∷ above }

-- the node at this position among siblings, below these
abbrev pub child_at : {L : Type 0} → List Content → Forest L → ℕ → Option (Found L)
child_at above Empty position = None
child_at above (Node label content children siblings) position =
    if position == 1 then Some (found_in above label content children) else child_at above siblings (position - 1)

-- the node that these positions lead to from a node
abbrev pub node_from : {L : Type 0} → List ℕ → Found L → Option (Found L)
node_from [] node = Some node
node_from (position ∷ positions) node = option_and_then (node_from positions) (child_at node.above node.children position)

-- the node of a document at these positions
abbrev pub node_at : {L : Type 0} → Document L → List ℕ → Option (Found L)
node_at document positions = node_from positions (root_of document)

-- the first node in document order whose label passes the test, among siblings that stand below these
abbrev pub first_in : {L : Type 0} → (L → Bool) → List Content → Forest L → Option (Found L)
first_in test above Empty = None
first_in test above (Node label content children siblings) =
    if test label then Some (found_in above label content children)
    else option_or (first_in test (content ∷ above) children) (first_in test above siblings)

-- the same in a document
abbrev pub first_labelled : {L : Type 0} → (L → Bool) → Document L → Option (Found L)
first_labelled test document = if test document.root then Some (root_of document) else first_in test [] document.nodes

-- what stands at a place: a node of the tree, or an attribute or a namespace node of it
pub data Item (L : Type 0) : Type 0 where
  TreeNode : (node : Found L) → Item L
  AttributeNode : (element : Found L) → (attribute : Written) → Item L
  NamespaceNode : (element : Found L) → (prefix : List ℕ) → (uri : List ℕ) → Item L

-- the namespaces in scope at a node
abbrev pub scope_at : {L : Type 0} → Found L → Scope
scope_at node = scope_of root_scope node.above

abbrev pub attributes_in : Option Content → List Written
attributes_in None = []
attributes_in (Some (Element name attributes)) = filter (λ a. not (is_declaration a)) attributes
attributes_in (Some (Text text)) = []
attributes_in (Some (Comment text)) = []
attributes_in (Some (Instruction target text)) = []

-- the attributes of a node in their order
abbrev pub attributes_of : {L : Type 0} → Found L → List Written
attributes_of node = attributes_in node.content

abbrev pub namespaces_by : Option Content → Scope → List (List ℕ × List ℕ)
namespaces_by None scope = []
namespaces_by (Some (Element name attributes)) scope = namespaces_in scope
namespaces_by (Some (Text text)) scope = []
namespaces_by (Some (Comment text)) scope = []
namespaces_by (Some (Instruction target text)) scope = []

-- the namespace nodes of a node in document order, each as prefix and URI
abbrev pub namespaces_of : {L : Type 0} → Found L → List (List ℕ × List ℕ)
namespaces_of node = namespaces_by node.content (scope_at node)

-- the element at a number that counts from 1
abbrev pub at_number : {A : Type 0} → ℕ → List A → Option A
at_number number [] = None
at_number number (x ∷ xs) = if number == 1 then Some x else at_number (number - 1) xs

abbrev pub attribute_at : {L : Type 0} → Found L → ℕ → Option (Item L)
attribute_at node number = option_map (AttributeNode node) (at_number number (attributes_of node))

-- the namespace node of this number in document order, and the one of this prefix
abbrev pub namespace_at : {L : Type 0} → Found L → ℕ → Option (Item L)
namespace_at node number = option_map (λ n. NamespaceNode node n.0 n.1) (at_number number (namespaces_of node))

abbrev pub namespace_of : {L : Type 0} → Found L → List ℕ → Option (Item L)
namespace_of node prefix = option_map (λ n. NamespaceNode node n.0 n.1) (find (λ n. bytes_eq n.0 prefix) (namespaces_of node))

abbrev pub item_by : {L : Type 0} → Ending → Found L → Option (Item L)
item_by Itself node = Some (TreeNode node)
item_by (AtAttribute number) node = attribute_at node number
item_by (AtNamespace prefix) node = namespace_of node prefix

-- what stands at a place of a document
abbrev pub item_at : {L : Type 0} → Document L → Place → Option (Item L)
item_at document place = option_and_then (item_by place.ending) (node_at document place.positions)

abbrev pub kind_by : Option Content → Kind
kind_by None = kind.Root
kind_by (Some (Element name attributes)) = kind.Element
kind_by (Some (Text text)) = kind.Text
kind_by (Some (Comment text)) = kind.Comment
kind_by (Some (Instruction target text)) = kind.Instruction

abbrev pub kind_of : {L : Type 0} → Item L → Kind
kind_of (TreeNode node) = kind_by node.content
kind_of (AttributeNode element attribute) = kind.Attribute
kind_of (NamespaceNode element prefix uri) = kind.Namespace

abbrev pub name_by : Option Content → Scope → Option Expanded
name_by None scope = None
name_by (Some (Element name attributes)) scope = option_and_then (element_name scope) (qname_of name)
name_by (Some (Text text)) scope = None
name_by (Some (Comment text)) scope = None
name_by (Some (Instruction target text)) scope = Some (record { uri = []; local = target })

-- the expanded-name: that of a processing instruction has its target as local part, that of a namespace node its prefix.
-- A root, a text and a comment have none
abbrev pub expanded_name : {L : Type 0} → Item L → Option Expanded
expanded_name (TreeNode node) = name_by node.content (scope_at node)
expanded_name (AttributeNode element attribute) = option_and_then (attribute_name (scope_at element)) (qname_of attribute.name)
expanded_name (NamespaceNode element prefix uri) = Some (record { uri = []; local = prefix })

abbrev pub written_by : Option Content → List ℕ
written_by None = []
written_by (Some (Element name attributes)) = name
written_by (Some (Text text)) = []
written_by (Some (Comment text)) = []
written_by (Some (Instruction target text)) = target

-- the name as it is written, empty where there is none
abbrev pub written_name : {L : Type 0} → Item L → List ℕ
written_name (TreeNode node) = written_by node.content
written_name (AttributeNode element attribute) = attribute.name
written_name (NamespaceNode element prefix uri) = prefix

abbrev pub string_value_by : {L : Type 0} → Option Content → Forest L → List ℕ
string_value_by None children = texts_in children
string_value_by (Some (Element name attributes)) children = texts_in children
string_value_by (Some (Text text)) children = text
string_value_by (Some (Comment text)) children = text
string_value_by (Some (Instruction target text)) children = text

-- the string-value: of a root and an element the texts below, of an attribute its value, of a namespace node its URI, of any other node its content
abbrev pub string_value : {L : Type 0} → Item L → List ℕ
string_value (TreeNode node) = string_value_by node.content node.children
string_value (AttributeNode element attribute) = attribute.value
string_value (NamespaceNode element prefix uri) = uri
