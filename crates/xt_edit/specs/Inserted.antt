-- What nodes are put below, and what is built for it.
use Rattle.std.specs.Prelude.{ℕ, ◌≡◌, ◌+◌, true, List, Some, Result, Ok, Err}
use Rattle.spec_document.specs.declared.parent.Parent.{Parent}
use Rattle.spec_document.specs.Fault.{Fault}
use Rattle.spec_document.specs.Forest.{Document, Forest, size}
use Rattle.spec_document.specs.Place.{Found, node_at}
use Rattle.spec_edit.specs.Edit.{is_position, inserted_in, parent_by}
use Rattle.spec_edit.specs.Splice.{Spot}
use Rattle.xt_base.specs.Code.{edit_number}
use Rattle.xt_build.specs.declared.document.BuiltNodes.{BuiltNodes}
use Rattle.xt_edit.specs.declared.fault.EditFault.{EditFault}
use Rattle.xt_edit.specs.declared.fault.EditFault.TheVariants as faults
use Rattle.xt_edit.specs.View.{Edits}

-- the node that the spot is below, which may have this position
pub record IsParent (document : Document ℕ) (spot : Spot) (parent : Parent) : Type 0 where
  pub outer : Found ℕ
  pub at : node_at document spot.above ≡ Some outer
  pub is : parent_by outer.content outer ≡ Some parent
  pub position : is_position spot.position outer.children ≡ true

-- it is the parent, or what is answered in place of any nodes that are put there
abbrev pub Parts : Document ℕ → Spot → Result Parent EditFault → Type 0
Parts document spot (Ok parent) = IsParent document spot parent
Parts document spot (Err fault) =
    (first : ℕ) (body : List (List ℕ)) → Edits document first (Err fault) (inserted_in (λ nodes. nodes) first spot body document (node_at document spot.above))

-- what is built is the defined answer, or its fault is
abbrev pub AreBuilt : ℕ → Result BuiltNodes EditFault → Result (Forest ℕ) Fault → Type 0
AreBuilt first (Ok built) answer = (answer ≡ Ok built.nodes) × (built.next.number ≡ first + size built.nodes)
AreBuilt first (Err faults.Memory) answer = Unit {0}
AreBuilt first (Err (faults.Refused code line)) answer = answer ≡ Err (record { number = edit_number code; line = line })
