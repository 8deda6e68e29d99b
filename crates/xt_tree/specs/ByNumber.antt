-- The nodes of a document by their numbers, where these follow one another in document order.
use Rattle.std.specs.Prelude.{ℕ, ◌≡◌, ◌-◌, ◌++◌, ◌∷◌, [], List, map, Option, None, true, nat_lt, if◌then◌else◌}
use Rattle.std.specs.List.{slice_get}
use Rattle.std.specs.declared.rc.Rc.{Rc}
use Rattle.std.specs.declared.alloc.Global.{Global}
use Rattle.spec_document.specs.Forest.{Forest, Empty, Node}
use Rattle.xt_tree.specs.declared.by_number.ByNumber.{ByNumber}
use Rattle.xt_tree.specs.declared.node.Node.{Node as Shared}
use Rattle.xt_tree.specs.View.{Tree, first_tree, tree_of}

-- siblings and all below them, in document order
abbrev pub trees_in : Forest ℕ → List Tree
trees_in Empty = []
trees_in (Node label content children siblings) =
    record { number = label; content = content; children = children } ∷ trees_in children ++ trees_in siblings

-- nodes that are shared
abbrev pub trees_of : List (Rc Shared Global) → List Tree
trees_of nodes = map (λ n. tree_of n.value) nodes

-- the node at a number
abbrev pub tree_by : ByNumber → ℕ → Option Tree
tree_by nodes number = if nat_lt number nodes.first then None else slice_get (trees_of nodes.list.items) (number - nodes.first)

-- where they are all nodes, each is at its number
abbrev pub FindsAll : ByNumber → Forest ℕ → Type 0
FindsAll nodes forest = nodes.is_whole ≡ true → (number : ℕ) → tree_by nodes number ≡ first_tree number forest
