-- Which siblings are no elements.
use Rattle.std.specs.Prelude.{ℕ, List, [], ◌∷◌, ◌++◌, if◌then◌else◌}
use Rattle.spec_document.specs.Forest.{Forest, Empty, Node}
use Rattle.spec_touch.specs.Leads.{is_element}
use Rattle.xt_tree.specs.View.{Tree}

-- the number of a node, unless it is an element
abbrev pub loose_tree : Tree → List ℕ
loose_tree tree = if is_element tree.content then [] else tree.number ∷ []

-- so of siblings
abbrev pub loose_among : Forest ℕ → List ℕ
loose_among Empty = []
loose_among (Node label content children siblings) =
    loose_tree (record { number = label; content = content; children = children }) ++ loose_among siblings
