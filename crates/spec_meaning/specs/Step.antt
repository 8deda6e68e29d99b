-- What a step answers: the nodes of an axis that pass its node test (XPath 1.0, sections 2.2 and 2.3); and nodes in document order.
-- Nodes are named by a key of the reader's choice: by their places, or by their numbers.
use Rattle.std.specs.Prelude.{ℕ, Bool, true, false, ◌&&◌, List, [], map, filter, bytes_eq, Option, None, Some}
use Rattle.std.specs.List.{list_any, find}
use Rattle.spec_document.specs.declared.axis.Axis.{Axis}
use Rattle.spec_document.specs.declared.axis.Axis.TheVariants as axis
use Rattle.spec_document.specs.declared.kind.Kind.{Kind}
use Rattle.spec_document.specs.declared.kind.Kind.TheVariants as kind
use Rattle.spec_document.specs.Name.{Expanded, same_expanded}
use Rattle.spec_document.specs.Place.{Item, kind_of, expanded_name}
use Rattle.spec_document.specs.Order.{Entry, way_to}
use Rattle.spec_document.specs.Axis.{is_on, in_axis_order}
use Rattle.spec_expression.specs.declared.NodeType.{NodeType}
use Rattle.spec_expression.specs.declared.NodeType.TheVariants as type
use Rattle.spec_expression.specs.Syntax.{Test, AnyName, InNamespace, Named, OfType, Instruction}

abbrev pub is_attribute : Kind → Bool
is_attribute kind.Attribute = true
is_attribute _ = false

abbrev pub is_namespace : Kind → Bool
is_namespace kind.Namespace = true
is_namespace _ = false

abbrev pub is_element : Kind → Bool
is_element kind.Element = true
is_element _ = false

-- the principal kind: attributes on the attribute axis, namespace nodes on the namespace axis, else elements
abbrev pub is_principal : Axis → Kind → Bool
is_principal axis.Attribute k = is_attribute k
is_principal axis.Namespace k = is_namespace k
is_principal _ k = is_element k

abbrev pub is_of_type : NodeType → Kind → Bool
is_of_type type.Node k = true
is_of_type type.Text kind.Text = true
is_of_type type.Comment kind.Comment = true
is_of_type type.ProcessingInstruction kind.Instruction = true
is_of_type _ k = false

abbrev pub is_in_namespace : List ℕ → Option Expanded → Bool
is_in_namespace uri None = false
is_in_namespace uri (Some name) = bytes_eq name.uri uri

-- a processing instruction has its target as local part
abbrev pub has_local : List ℕ → Option Expanded → Bool
has_local local None = false
has_local local (Some name) = bytes_eq name.local local

-- whether a node passes the node test of a step on this axis
abbrev pub passes : {L : Type 0} → Axis → Test → Item L → Bool
passes axis AnyName item = is_principal axis (kind_of item)
passes axis (InNamespace uri) item = is_principal axis (kind_of item) && is_in_namespace uri (expanded_name item)
passes axis (Named name) item = is_principal axis (kind_of item) && same_expanded (Some name) (expanded_name item)
passes axis (OfType type) item = is_of_type type (kind_of item)
passes axis (Instruction target) item = is_of_type type.ProcessingInstruction (kind_of item) && has_local target (expanded_name item)

-- the nodes of an axis of a node that pass, in the order of the axis
abbrev pub step_from : {L K : Type 0} → (Entry L → K) → List (Entry L) → Axis → Test → Option (Entry L) → List K
step_from key entries axis test None = []
step_from key entries axis test (Some node) =
    in_axis_order axis (map key (filter (λ other. is_on axis (way_to node.place) (way_to other.place) && passes axis test other.item) entries))

abbrev pub stepped : {L K : Type 0} → (Entry L → K) → (K → K → Bool) → List (Entry L) → Axis → Test → K → List K
stepped key same entries axis test node = step_from key entries axis test (find (λ entry. same node (key entry)) entries)

-- nodes in document order, each once
abbrev pub ordered : {L K : Type 0} → (Entry L → K) → (K → K → Bool) → List (Entry L) → List K → List K
ordered key same entries nodes = map key (filter (λ entry. list_any (λ node. same node (key entry)) nodes) entries)
