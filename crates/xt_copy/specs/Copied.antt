-- What is copied of nodes, by the scopes that they stand in.
use Rattle.std.specs.Prelude.{ℕ, List, [], ◌∷◌, Option, Some, if◌then◌else◌}
use Rattle.std.specs.Option.{option_map, option_and_then, unwrap_or}
use Rattle.spec_document.specs.declared.kind.Kind.{Kind}
use Rattle.spec_document.specs.declared.kind.Kind.TheVariants as kind
use Rattle.spec_document.specs.Name.{Expanded, qname_of}
use Rattle.spec_document.specs.Scope.{Scope}
use Rattle.spec_document.specs.Declaration as declaration
use Rattle.spec_document.specs.Forest.{Written, Content, Element, Text, Comment, Instruction, Forest, Empty, Node}
use Rattle.spec_document.specs.Place.{Item, kind_of, written_name, expanded_name, string_value}
use Rattle.spec_meaning.specs.Stream as stream
use Rattle.spec_meaning.specs.Stream.{Stream, followed}
use Rattle.xt_tree.specs.View.{tree_at}

-- the URI of a name, empty where there is none
abbrev pub uri_by : Option Expanded → List ℕ
uri_by name = unwrap_or (option_map (λ n. n.uri) name) []

abbrev pub element_uri : Scope → List ℕ → List ℕ
element_uri scope name = uri_by (option_and_then (declaration.element_name scope) (qname_of name))

abbrev pub attribute_uri : Scope → List ℕ → List ℕ
attribute_uri scope name = uri_by (option_and_then (declaration.attribute_name scope) (qname_of name))

abbrev pub namespaces_in : Scope → List (List ℕ × List ℕ)
namespaces_in scope = declaration.namespaces_in scope

-- ---- Attributes, in the scope inside their element

abbrev pub attribute_alone : Scope → Written → Stream
attribute_alone scope a = stream.Attribute a.name (attribute_uri scope a.name) (stream.Text a.value stream.Ended) stream.Ended

-- a declaration is no attribute
abbrev pub copied_attribute : Scope → Written → Stream
copied_attribute scope a = if declaration.is_declaration a then stream.Ended else attribute_alone scope a

abbrev pub copied_attributes : Scope → List Written → Stream
copied_attributes scope [] = stream.Ended
copied_attributes scope (a ∷ more) = followed (copied_attribute scope a) (copied_attributes scope more)

-- ---- Nodes, in the scope inside them

-- what the content of the copy begins with
abbrev pub begun : Scope → Content → Stream
begun scope (Element name attributes) = copied_attributes scope attributes
begun scope (Text text) = stream.Ended
begun scope (Comment text) = stream.Ended
begun scope (Instruction target text) = stream.Ended

-- the copy, by what is inside
abbrev pub around : Scope → Content → Stream → Stream
around scope (Element name attributes) inside = stream.Element name (element_uri scope name) (namespaces_in scope) inside stream.Ended
around scope (Text text) inside = stream.Text text stream.Ended
around scope (Comment text) inside = stream.Comment (stream.Text text stream.Ended) stream.Ended
around scope (Instruction target text) inside = stream.Instruction target (stream.Text text stream.Ended) stream.Ended

-- siblings that stand in this scope
abbrev pub copied_in : {L : Type 0} → Scope → Forest L → Stream
copied_in scope Empty = stream.Ended
copied_in scope (Node label content children siblings) =
    followed (around (declaration.within content scope) content
    (followed (begun (declaration.within content scope) content) (copied_in (declaration.within content scope) children))) (copied_in scope siblings)

-- ---- The node that positions lead to, among those below a node whose copy is this one, in this scope

abbrev pub copied_from : List ℕ → Stream → Scope → Forest ℕ → Option Stream
copied_from [] copy scope below = Some copy
copied_from (position ∷ positions) copy scope below =
    option_and_then (λ tree. copied_from positions (copied_in scope (Node tree.number tree.content tree.children Empty))
    (declaration.within tree.content scope) tree.children) (tree_at below position)

-- ---- Nodes that nothing is below

abbrev pub leaf_by : Kind → (written : List ℕ) → Option Expanded → (value : List ℕ) → Stream
leaf_by kind.Attribute written name value = stream.Attribute written (uri_by name) (stream.Text value stream.Ended) stream.Ended
leaf_by kind.Namespace written name value = stream.Namespace written value stream.Ended
leaf_by kind.Comment written name value = stream.Comment (stream.Text value stream.Ended) stream.Ended
leaf_by kind.Instruction written name value = stream.Instruction written (stream.Text value stream.Ended) stream.Ended
leaf_by kind.Text written name value = stream.Text value stream.Ended
leaf_by kind.Element written name value = stream.Text value stream.Ended
leaf_by kind.Root written name value = stream.Text value stream.Ended

abbrev pub leaf_of : {L : Type 0} → Item L → Stream
leaf_of item = leaf_by (kind_of item) (written_name item) (expanded_name item) (string_value item)
