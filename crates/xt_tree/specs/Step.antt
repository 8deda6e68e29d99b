-- One step on the way to a number: to the only sibling at or below which it may stand.
use Rattle.std.specs.Prelude.{ℕ, ◌≡◌, ◌<◌, ◌==◌, List, [], ◌∷◌, Some, if◌then◌else◌}
use Rattle.std.specs.Option.{option_map}
use Rattle.std.specs.declared.rc.Rc.{Rc}
use Rattle.std.specs.declared.alloc.Global.{Global}
use Rattle.spec_document.specs.Forest.{size}
use Rattle.xt_tree.specs.declared.node.Node.{Node}
use Rattle.xt_tree.specs.Keys.{Rises}
use Rattle.xt_tree.specs.View.{tree_of, forest_of, first_tree, way_to}

-- the node of this number is this sibling, which has this position, or stands below it, or nowhere
pub record IsStep (key : ℕ → ℕ) (number : ℕ) (siblings : List (Rc Node Global)) (node : Node) (position : ℕ) : Type 0 where
  pub rises : Rises key (key (tree_of node).number) (tree_of node).children
  pub smaller : size (tree_of node).children < size (forest_of siblings)
  pub tree : first_tree number (forest_of siblings)
      ≡ (if (tree_of node).number == number then Some (tree_of node) else first_tree number (tree_of node).children)
  pub way : way_to number 1 (forest_of siblings)
      ≡ (if (tree_of node).number == number then Some (position ∷ []) else option_map (λ way. position ∷ way) (way_to number 1 (tree_of node).children))
