-- Document order (XPath 1.0, section 5), and the nodes of a document in it.
use Rattle.std.specs.Prelude.{ℕ, ◌+◌, Bool, List, [], ◌∷◌, ◌++◌, map, IsTrue}
use Rattle.std.specs.Ordering.{nat_cmp, is_lt, is_eq}
use Rattle.std.specs.declared.cmp.Ordering.{Ordering}
use Rattle.std.specs.declared.cmp.Ordering.TheVariants.{Less, Greater}
use Rattle.std.specs.Cmp.Lexicographic.{slice_cmp}
use Rattle.spec_document.specs.Forest.{Written, Content, Forest, Empty, Node, Document}
use Rattle.spec_document.specs.Place.{Ending, Itself, AtAttribute, AtNamespace, Place, Found, Item, TreeNode, AttributeNode, NamespaceNode, root_of, found_in, attributes_of, namespaces_of}

-- one step on the way from the root to a place
pub data Way : Type 0 where
  ToNamespace : (prefix : List ℕ) → Way
  ToAttribute : (number : ℕ) → Way
  ToChild : (position : ℕ) → Way

abbrev pub end_of : Ending → List Way
end_of Itself = []
end_of (AtAttribute number) = ToAttribute number ∷ []
end_of (AtNamespace prefix) = ToNamespace prefix ∷ []

-- the way to a place
abbrev pub way_to : Place → List Way
way_to place = map ToChild place.positions ++ end_of place.ending

-- of two steps from one node: its namespace nodes come first, by their prefixes in code point order, so that the default one is
-- the first; then its attributes, then its children
abbrev pub way_cmp : Way → Way → Ordering
way_cmp (ToNamespace p) (ToNamespace q) = slice_cmp nat_cmp p q
way_cmp (ToNamespace p) (ToAttribute n) = Less
way_cmp (ToNamespace p) (ToChild n) = Less
way_cmp (ToAttribute m) (ToNamespace q) = Greater
way_cmp (ToAttribute m) (ToAttribute n) = nat_cmp m n
way_cmp (ToAttribute m) (ToChild n) = Less
way_cmp (ToChild m) (ToNamespace q) = Greater
way_cmp (ToChild m) (ToAttribute n) = Greater
way_cmp (ToChild m) (ToChild n) = nat_cmp m n

-- document order: ways are compared as lists, a prefix first
abbrev pub document_cmp : List Way → List Way → Ordering
document_cmp = slice_cmp way_cmp

-- whether the first of two places comes before the second
abbrev pub precedes : List Way → List Way → Bool
precedes p q = is_lt (document_cmp p q)

abbrev pub comes_before : Place → Place → Bool
comes_before p q = precedes (way_to p) (way_to q)

abbrev pub is_same_place : Place → Place → Bool
is_same_place p q = is_eq (document_cmp (way_to p) (way_to q))

-- ---- The nodes of a document

-- a node with its place; of an attribute or a namespace node, its number among those of its element, from 1
pub record Entry (L : Type 0) : Type 0 where
  pub place : Place
  pub number : ℕ
  pub item : Item L

abbrev pub namespace_entries : {L : Type 0} → List ℕ → Found L → ℕ → List (List ℕ × List ℕ) → List (Entry L)
namespace_entries positions element number [] = []
namespace_entries positions element number (n ∷ more) =
    record { place = record { positions = positions; ending = AtNamespace n.0 }; number = number; item = NamespaceNode element n.0 n.1 }
    ∷ namespace_entries positions element (number + 1) more

abbrev pub attribute_entries : {L : Type 0} → List ℕ → Found L → ℕ → List Written → List (Entry L)
attribute_entries positions element number [] = []
attribute_entries positions element number (a ∷ more) =
    record { place = record { positions = positions; ending = AtAttribute number }; number = number; item = AttributeNode element a }
    ∷ attribute_entries positions element (number + 1) more

-- a node, its namespace nodes and its attributes
abbrev pub own_entries : {L : Type 0} → List ℕ → Found L → List (Entry L)
own_entries positions node =
    record { place = record { positions = positions; ending = Itself }; number = 0; item = TreeNode node }
    ∷ namespace_entries positions node 1 (namespaces_of node) ++ attribute_entries positions node 1 (attributes_of node)

-- of siblings below the node at these positions, the first of which has this position, and of what is below them
abbrev pub entries_in : {L : Type 0} → List Content → List ℕ → ℕ → Forest L → List (Entry L)
entries_in above parent position Empty = []
entries_in above parent position (Node label content children siblings) =
    own_entries (parent ++ position ∷ []) (found_in above label content children)
    ++ entries_in (content ∷ above) (parent ++ position ∷ []) 1 children
    ++ entries_in above parent (position + 1) siblings

-- all nodes of a document, in document order
abbrev pub entries_of : {L : Type 0} → Document L → List (Entry L)
entries_of document = own_entries [] (root_of document) ++ entries_in [] [] 1 document.nodes

abbrev pub ways_of : {L : Type 0} → List (Entry L) → List (List Way)
ways_of entries = map (λ e. way_to e.place) entries

-- each place comes before all that stand after it in the list
abbrev pub ComesBeforeAll : List Way → List (List Way) → Type 0
ComesBeforeAll p [] = Unit {0}
ComesBeforeAll p (q ∷ more) = IsTrue (precedes p q) × ComesBeforeAll p more

abbrev pub AreInOrder : List (List Way) → Type 0
AreInOrder [] = Unit {0}
AreInOrder (p ∷ more) = ComesBeforeAll p more × AreInOrder more
