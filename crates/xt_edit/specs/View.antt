-- What the types of this crate stand for.
use Rattle.std.specs.Prelude.{ℕ, ◌≡◌, ◌+◌, ◌∷◌, nat_lt, IsTrue, Result, Ok, Err}
use Rattle.std.specs.List.{list_all}
use Rattle.spec_document.specs.Fault.{Fault}
use Rattle.spec_document.specs.Forest.{Document, labels, plain}
use Rattle.spec_edit.specs.Edit as spec
use Rattle.xt_base.specs.Code.{edit_number}
use Rattle.xt_edit.specs.declared.edit.Edit.{Edit}
use Rattle.xt_edit.specs.declared.edit.Edit.TheVariants as code
use Rattle.xt_edit.specs.declared.edit.Edited.{Edited}
use Rattle.xt_edit.specs.declared.fault.EditFault.{EditFault}
use Rattle.xt_edit.specs.declared.fault.EditFault.TheVariants as faults

abbrev pub edit_of : Edit → spec.Edit
edit_of (code.Insert path body) = spec.Insert path body.items
edit_of (code.Delete path) = spec.Delete path
edit_of (code.SetText path value) = spec.SetText path value
edit_of (code.SetAttribute path name value) = spec.SetAttribute path name value
edit_of (code.RemoveAttribute path name) = spec.RemoveAttribute path name
edit_of (code.Rename path name) = spec.Rename path name

-- all numbers of the document are below this one
abbrev pub AreBelow : ℕ → Document ℕ → Type 0
AreBelow first document = IsTrue (list_all (λ number. nat_lt number first) (document.root ∷ labels document.nodes))

-- what the document becomes, with its numbers and the number after the last, is the defined answer, or the refusal is. Want of memory is free
abbrev pub Edits : Document ℕ → ℕ → Result Edited EditFault → Result (spec.Edited ℕ) Fault → Type 0
Edits old first (Ok edited) answer =
    (new : spec.Edited ℕ) × (answer ≡ Ok new) × (edited.document ≡ record { root = old.root; nodes = new.nodes }) × (edited.next.number ≡ first + new.made)
Edits old first (Err faults.Memory) answer = Unit {0}
Edits old first (Err (faults.Refused code line)) answer = answer ≡ Err (record { number = edit_number code; line = line })

-- the same without the numbers of nodes
abbrev pub EditsPlain : ℕ → Result Edited EditFault → Result (spec.Edited (Unit {0})) Fault → Type 0
EditsPlain first (Ok edited) answer =
    (new : spec.Edited (Unit {0})) × (answer ≡ Ok new) × (plain edited.document.nodes ≡ new.nodes) × (edited.next.number ≡ first + new.made)
EditsPlain first (Err faults.Memory) answer = Unit {0}
EditsPlain first (Err (faults.Refused code line)) answer = answer ≡ Err (record { number = edit_number code; line = line })
