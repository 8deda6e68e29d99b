-- What edits of a document ask.
use Rattle.std.specs.Prelude.{ℕ, ◌≡◌, ◌⊎◌, List, [], Option, None, Some}
use Rattle.std.specs.Option.{option_map, option_and_then}
use Rattle.spec_document.specs.Declaration.{within}
use Rattle.spec_document.specs.Forest as spec
use Rattle.spec_document.specs.Place.{Found, name_by, node_at}
use Rattle.spec_document.specs.Scope.{Scope}
use Rattle.spec_edit.specs.Edit.{is_element}
use Rattle.xt_tree.specs.declared.node.Node.{Node}
use Rattle.xt_tree.specs.View.{tree_of}

-- it is the node below the root that these positions lead to; none where they lead to no node or to the root
pub record IsFound (node : Node) (found : Found ℕ) : Type 0 where
  pub number : (tree_of node).number ≡ found.label
  pub content : Some (tree_of node).content ≡ found.content
  pub children : (tree_of node).children ≡ found.children

abbrev pub IsNodeAt : spec.Document ℕ → List ℕ → Option Node → Type 0
IsNodeAt document path None = (path ≡ []) ⊎ (node_at document path ≡ None)
IsNodeAt document path (Some node) = (found : Found ℕ) × (node_at document path ≡ Some found) × IsFound node found

-- the content of the node at this position below the node that these positions lead to
abbrev pub content_below : spec.Document ℕ → List ℕ → ℕ → Option spec.Content
content_below document parent position =
    option_and_then (λ node. option_map (λ tree. tree.content) (spec.tree_at node.children position)) (node_at document parent)

-- names are the same at a node with either content, and below it, and both or neither are of an element
pub record KeepsNames (old new : spec.Content) : Type 0 where
  pub inside : (scope : Scope) → within new scope ≡ within old scope
  pub own : (scope : Scope) → name_by (Some new) scope ≡ name_by (Some old) scope
  pub kind : is_element new ≡ is_element old
