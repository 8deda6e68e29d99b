-- The numbers of a document's nodes, and their depth.
use Rattle.std.specs.Prelude.{ℕ, ◌+◌, ◌≤◌, ◌<◌, Bool, true, not, ◌&&◌, nat_lt, List, [], ◌∷◌, Option, IsTrue}
use Rattle.std.specs.List.{list_all, list_any}
use Rattle.std.specs.Prelude.{◌==◌}
use Rattle.spec_document.specs.Forest.{Document, labels, height}
use Rattle.spec_document.specs.NodeFaults.{greatest_depth}
use Rattle.spec_document.specs.Numbering.{number_limit}
use Rattle.spec_edit.specs.Depth.{ElementsFit}
use Rattle.xt_tree.specs.ByNumber.{FindsAll}
use Rattle.xt_tree.specs.Kept.{AreNames}
use Rattle.xt_tree.specs.declared.by_number.ByNumber.{ByNumber}
use Rattle.xt_tree.specs.declared.names.Called.{Called}
use Rattle.xt_tree.specs.Keys.{Rises, last_key, key_limit}

-- none stands twice
abbrev pub are_distinct : List ℕ → Bool
are_distinct [] = true
are_distinct (n ∷ ns) = not (list_any (λ m. m == n) ns) && are_distinct ns

-- the numbers are distinct and below the limit
abbrev pub are_numbers : List ℕ → Bool
are_numbers ns = are_distinct ns && list_all (λ n. nat_lt n number_limit) ns

abbrev pub IsNumbered : Document ℕ → Type 0
IsNumbered document = IsTrue (are_numbers (document.root ∷ labels document.nodes))

-- the numbers of a document's nodes are so, and its elements stand at depths of at most 256, with other nodes below the deepest; nodes are
-- found by keys of their numbers, which rise in document order; names and scopes that are kept are theirs
pub record IsDocument (key : ℕ → ℕ) (kept : ℕ → Option Called) (document : Document ℕ) : Type 0 where
  pub numbers : IsNumbered document
  pub depth : height document.nodes ≤ greatest_depth + 1
  pub fits : ElementsFit 1 document.nodes
  pub rises : Rises key 0 document.nodes
  pub limit : last_key key 0 document.nodes < key_limit
  pub names : AreNames kept document

-- and nodes that are kept by their numbers are its own
pub record IsWhole (key : ℕ → ℕ) (kept : ℕ → Option Called) (by_number : ByNumber) (document : Document ℕ) : Type 0 where
  pub sound : IsDocument key kept document
  pub found : FindsAll by_number document.nodes
