-- What a document keeps of its nodes: the expanded names, and of elements the scopes inside them.
use Rattle.std.specs.Prelude.{ℕ, ◌≡◌, ◌-◌, ◌++◌, ◌∷◌, [], List, Option, None, Some, nat_lt, if◌then◌else◌}
use Rattle.std.specs.List.{slice_get}
use Rattle.std.specs.Option.{ForSome, option_and_then}
use Rattle.spec_document.specs.Declaration.{within}
use Rattle.spec_document.specs.Forest.{Content, Document, Element, Text, Comment, Instruction, Forest, Empty, Node}
use Rattle.spec_document.specs.Place.{name_by, scope_at}
use Rattle.spec_document.specs.Scope.{Scope}
use Rattle.xt_tree.specs.declared.names.Called.{Called}
use Rattle.xt_tree.specs.declared.names.Names.{Names}
use Rattle.xt_tree.specs.View.{numbered_node}

-- the scope inside an element; it is kept of no other node
abbrev pub scope_by : Option Content → Scope → Option Scope
scope_by None scope = None
scope_by (Some (Element name attributes)) scope = Some scope
scope_by (Some (Text text)) scope = None
scope_by (Some (Comment text)) scope = None
scope_by (Some (Instruction target text)) scope = None

-- what is kept of a node with this content, inside which this scope is
abbrev pub called_by : Option Content → Scope → Called
called_by content scope = record { name = name_by content scope; scope = scope_by content scope }

-- what is kept of siblings in this scope and of all below them, in document order
abbrev pub names_in : Scope → Forest ℕ → List Called
names_in scope Empty = []
names_in scope (Node label content children siblings) =
    called_by (Some content) (within content scope) ∷ names_in (within content scope) children ++ names_in scope siblings

-- what is kept for a number
abbrev pub kept_at : Names → ℕ → Option Called
kept_at names number = if nat_lt number names.first then None else slice_get names.list.items (number - names.first)

-- the scope that is kept for a number
abbrev pub scope_kept : Names → ℕ → Option Scope
scope_kept names number = option_and_then (λ called. called.scope) (kept_at names number)

-- what is kept for a number of a node is that node's
abbrev pub AreNames : (ℕ → Option Called) → Document ℕ → Type 0
AreNames kept document =
    (number : ℕ) → ForSome (kept number) (λ called. ForSome (numbered_node document number) (λ node. called ≡ called_by node.content (scope_at node)))
