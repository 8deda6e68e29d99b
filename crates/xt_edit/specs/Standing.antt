-- Documents that may be made.
use Rattle.std.specs.Prelude.{ℕ, ◌≡◌, ◌+◌, ◌≤◌, Result, Ok}
use Rattle.spec_document.specs.Fault.{Fault}
use Rattle.spec_document.specs.Forest.{Document, height}
use Rattle.spec_document.specs.NodeFaults.{greatest_depth}
use Rattle.spec_edit.specs.Depth.{ElementsFit}
use Rattle.spec_edit.specs.Edit.{Edited}
use Rattle.xt_tree.specs.Numbers.{IsNumbered}

-- its numbers are distinct and below the limit, and it is no deeper than any may be
pub record Stands (document : Document ℕ) : Type 0 where
  pub numbers : IsNumbered document
  pub depth : height document.nodes ≤ greatest_depth + 1
  pub fits : ElementsFit 1 document.nodes

-- what the document is to become may be made
abbrev pub Permits : Document ℕ → Result (Edited ℕ) Fault → Type 0
Permits document answer = (new : Edited ℕ) → answer ≡ Ok new → Stands (record { root = document.root; nodes = new.nodes })
