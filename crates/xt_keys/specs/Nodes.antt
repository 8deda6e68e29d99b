-- The names of all nodes of a document, in document order, as a walk with the namespaces in scope finds them.
use Rattle.std.specs.Prelude.{ℕ, ◌+◌, List, [], ◌∷◌, ◌++◌, Some, not}
use Rattle.std.specs.List.{filter}
use Rattle.spec_document.specs.Declaration.{is_declaration, within}
use Rattle.spec_document.specs.Forest.{Content, Forest, Empty, Node, Written}
use Rattle.spec_document.specs.Place.{attributes_in, namespaces_by}
use Rattle.spec_document.specs.Scope.{Scope}
use Rattle.xt_tree.specs.View.{itself}
use Rattle.spec_node.specs.declared.node_ref.NodeRef.{NodeRef}
use Rattle.spec_node.specs.declared.node_ref.Part.TheVariants as part

-- a namespace node of the node of this label, and an attribute
abbrev pub namespace_ref : ℕ → ℕ → NodeRef
namespace_ref label number = record { node = record { number = label }; part = part.Namespace number }

abbrev pub attribute_ref : ℕ → ℕ → NodeRef
attribute_ref label number = record { node = record { number = label }; part = part.Attribute number }

-- those of namespaces, the first of which has this number, and of attributes
abbrev pub namespace_refs : ℕ → ℕ → List (List ℕ × List ℕ) → List NodeRef
namespace_refs label number [] = []
namespace_refs label number (n ∷ more) = namespace_ref label number ∷ namespace_refs label (number + 1) more

abbrev pub attribute_refs : ℕ → ℕ → List Written → List NodeRef
attribute_refs label number [] = []
attribute_refs label number (a ∷ more) = attribute_ref label number ∷ attribute_refs label (number + 1) more

-- those of what is written at an element that are no declarations
abbrev pub attributes_among : List Written → List Written
attributes_among written = filter (λ a. not (is_declaration a)) written

-- a node with this scope inside, its namespace nodes and its attributes
abbrev pub own_refs : ℕ → Content → Scope → List NodeRef
own_refs label content scope = itself label ∷ namespace_refs label 1 (namespaces_by (Some content) scope) ++ attribute_refs label 1 (attributes_in (Some content))

-- those of siblings in this scope and of all below them
abbrev pub refs_in : Scope → Forest ℕ → List NodeRef
refs_in scope Empty = []
refs_in scope (Node label content children siblings) =
    own_refs label content (within content scope) ++ refs_in (within content scope) children ++ refs_in scope siblings
