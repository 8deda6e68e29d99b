-- How deep elements stand.
use Rattle.std.specs.Prelude.{ℕ, ◌+◌, ◌≤◌, IsTrue}
use Rattle.spec_document.specs.Forest.{Forest, Empty, Node}
use Rattle.spec_document.specs.NodeFaults.{greatest_depth}
use Rattle.spec_edit.specs.Edit.{is_element}

-- none too deep, where these siblings stand at this depth
abbrev pub ElementsFit : {L : Type 0} → (depth : ℕ) → Forest L → Type 0
ElementsFit depth Empty = Unit {0}
ElementsFit depth (Node label content children siblings) =
    (IsTrue (is_element content) → depth ≤ greatest_depth) × ElementsFit (depth + 1) children × ElementsFit depth siblings
