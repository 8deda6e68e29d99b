-- The trees that shared nodes stand for.
use Rattle.std.specs.Prelude.{ℕ, ◌≡◌, ◌≢◌, ◌+◌, ◌-◌, List, [], ◌∷◌, map, Option, None, Some, ◌==◌}
use Rattle.std.specs.Prelude.{if◌then◌else◌}
use Rattle.std.specs.Option.{option_map, option_and_then, option_or}
use Rattle.std.specs.declared.rc.Rc.{Rc}
use Rattle.std.specs.declared.alloc.Global.{Global}
use Rattle.spec_document.specs.Forest as spec
use Rattle.spec_document.specs.Scope.{Scope}
use Rattle.spec_document.specs.Declaration.{within}
use Rattle.spec_document.specs.Place.{Found, Item, TreeNode, first_labelled, node_at, attribute_at, namespace_at}
use Rattle.xt_tree.specs.declared.node.Written.{Written}
use Rattle.xt_tree.specs.declared.node.Content.{Content}
use Rattle.xt_tree.specs.declared.node.Content.TheVariants as code
use Rattle.xt_tree.specs.declared.node.Node.{Node, Node-F, fold-Node}
use Rattle.spec_node.specs.declared.node_ref.NodeRef.{NodeRef}
use Rattle.spec_node.specs.declared.node_ref.Part.{Part}
use Rattle.spec_node.specs.declared.node_ref.Part.TheVariants as part

abbrev pub written_of : Written → spec.Written
written_of a = record { name = a.name; value = a.value }

abbrev pub content_of : Content → spec.Content
content_of (code.Element name attributes) = spec.Element name (map written_of attributes.items)
content_of (code.Text text) = spec.Text text
content_of (code.Comment text) = spec.Comment text
content_of (code.Instruction target text) = spec.Instruction target text

-- one node with what is below it
pub record Tree : Type 0 where
  pub number : ℕ
  pub content : spec.Content
  pub children : spec.Forest ℕ

abbrev pub forest : List Tree → spec.Forest ℕ
forest [] = spec.Empty
forest (tree ∷ trees) = spec.Node tree.number tree.content tree.children (forest trees)

abbrev pub node_step : Node-F Tree → Tree
node_step n = record { number = n.id.number; content = content_of n.content.value; children = forest (map (λ c. c.value) n.children.items) }

abbrev pub tree_of : Node → Tree
tree_of = fold-Node Tree node_step

-- siblings that are shared
abbrev pub forest_of : List (Rc Node Global) → spec.Forest ℕ
forest_of nodes = forest (map (λ c. tree_of c.value) nodes)

-- what a part of a node is
abbrev pub part_of : Part → Found ℕ → Option (Item ℕ)
part_of part.Itself node = Some (TreeNode node)
part_of (part.Attribute number) node = attribute_at node number
part_of (part.Namespace number) node = namespace_at node number

-- the node of a document of this number
abbrev pub numbered_node : spec.Document ℕ → ℕ → Option (Found ℕ)
numbered_node document number = first_labelled (λ l. l == number) document

-- what a name of a node stands for in a document
abbrev pub item_of : spec.Document ℕ → NodeRef → Option (Item ℕ)
item_of document node = option_and_then (part_of node.part) (numbered_node document node.node.number)

-- the first tree of this number in document order
abbrev pub first_tree : ℕ → spec.Forest ℕ → Option Tree
first_tree number spec.Empty = None
first_tree number (spec.Node label content children siblings) =
    if label == number then Some (record { number = label; content = content; children = children })
    else option_or (first_tree number children) (first_tree number siblings)

-- the positions that lead to it, where the first sibling has this position
abbrev pub way_to : ℕ → ℕ → spec.Forest ℕ → Option (List ℕ)
way_to number position spec.Empty = None
way_to number position (spec.Node label content children siblings) =
    if label == number then Some (position ∷ [])
    else option_or (option_map (λ way. position ∷ way) (way_to number 1 children)) (way_to number (position + 1) siblings)

-- the tree at a position among siblings, from 1
abbrev pub tree_at : spec.Forest ℕ → ℕ → Option Tree
tree_at spec.Empty position = None
tree_at (spec.Node label content children siblings) position =
    if position == 1 then Some (record { number = label; content = content; children = children }) else tree_at siblings (position - 1)

-- the number of the node that positions lead to
abbrev pub number_from : List ℕ → ℕ → spec.Forest ℕ → Option ℕ
number_from [] number children = Some number
number_from (position ∷ positions) number children = option_and_then (λ tree. number_from positions tree.number tree.children) (tree_at children position)

abbrev pub itself : ℕ → NodeRef
itself number = record { node = record { number = number }; part = part.Itself }

-- the positions lead to the node of this number; without positions there is no such node
abbrev pub IsWayTo : spec.Document ℕ → ℕ → Option (List ℕ) → Type 0
IsWayTo document number None = numbered_node document number ≡ None
IsWayTo document number (Some path) = (node_at document path ≡ numbered_node document number) × (numbered_node document number ≢ None)

-- the positions lead to what the name stands for, or to the element that it belongs to; without positions it stands for nothing
abbrev pub IsPlaceOf : spec.Document ℕ → NodeRef → Option (List ℕ) → Type 0
IsPlaceOf document node None = item_of document node ≡ None
IsPlaceOf document node (Some path) = (node_at document path ≡ numbered_node document node.node.number) × (item_of document node ≢ None)

-- the scope inside the node that positions lead to, from siblings that stand in this scope
abbrev pub scope_from : List ℕ → Scope → spec.Forest ℕ → Option Scope
scope_from [] scope siblings = Some scope
scope_from (position ∷ positions) scope siblings =
    option_and_then (λ tree. scope_from positions (within tree.content scope) tree.children) (tree_at siblings position)

-- the children of the node that positions lead to, from siblings
abbrev pub children_from : List ℕ → spec.Forest ℕ → Option (spec.Forest ℕ)
children_from [] siblings = Some siblings
children_from (position ∷ positions) siblings = option_and_then (λ tree. children_from positions tree.children) (tree_at siblings position)
