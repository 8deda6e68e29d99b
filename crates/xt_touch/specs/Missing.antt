-- What one document has below a node and another one has not.
use Rattle.std.specs.Prelude.{ℕ, ◌==◌, List, [], ◌∷◌, ◌++◌, Option, None, Some, if◌then◌else◌}
use Rattle.spec_document.specs.Forest.{Document, Forest, Empty, Node, labels}
use Rattle.spec_change.specs.Change.{is_among}
use Rattle.xt_tree.specs.View.{Tree, first_tree}

abbrev pub below : Option Tree → Forest ℕ
below None = Empty
below (Some tree) = tree.children

-- the nodes directly below the root or the node of a number, with all below them; none where there is no such node
abbrev pub children_of : ℕ → Document ℕ → Forest ℕ
children_of number document = if document.root == number then document.nodes else below (first_tree number document.nodes)

-- a node with all below it, where its number is not among these
abbrev pub missing_tree : List ℕ → Tree → List ℕ
missing_tree numbers tree = if is_among numbers tree.number then [] else tree.number ∷ labels tree.children

-- those of siblings whose numbers are not among these, each with all below it
abbrev pub missing_among : List ℕ → Forest ℕ → List ℕ
missing_among numbers Empty = []
missing_among numbers (Node label content children siblings) =
    missing_tree numbers (record { number = label; content = content; children = children }) ++ missing_among numbers siblings
