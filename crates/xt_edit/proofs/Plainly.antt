-- An edit of a document is that of the document without its numbers.
use Rattle.std.proofs.Common.{◌≡◌, ℕ, ap, ◌∙◌}
use Rattle.std.specs.Prelude.{Result, Ok, Err}
use Rattle.spec_document.specs.Fault.{Fault}
use Rattle.spec_document.specs.Forest.{Document, plain}
use Rattle.spec_edit.specs.Edit as spec
use Rattle.spec_edit.specs.Edit.{without_labels}
use Rattle.xt_edit.specs.View.{Edits, EditsPlain}
use Rattle.xt_edit.specs.declared.edit.Edited.{Edited}
use Rattle.xt_edit.specs.declared.fault.EditFault.{EditFault}
use Rattle.xt_edit.specs.declared.fault.EditFault.TheVariants as faults

pub plainly : (document : Document ℕ) (first : ℕ) (result : Result Edited EditFault) (answer : Result (spec.Edited ℕ) Fault)
    (bare : Result (spec.Edited (Unit {0})) Fault) → bare ≡ without_labels answer → Edits document first result answer → EditsPlain first result bare
plainly document first (Ok edited) answer bare same h =
    (record { nodes = plain h.0.nodes; made = h.0.made }, same ∙ ap without_labels h.1, ap (λ (d : Document ℕ). plain d.nodes) h.2, h.3)
plainly document first (Err faults.Memory) answer bare same h = tt
plainly document first (Err (faults.Refused code line)) answer bare same h = same ∙ ap without_labels h
