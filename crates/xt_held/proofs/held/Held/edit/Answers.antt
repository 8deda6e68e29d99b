use Rattle.std.proofs.Common.{refl}
use Rattle.spec_edit.specs.Edit.{edited_nodes}
use Rattle.xt_edit.specs.View.{edit_of}
use Rattle.xt_held.specs.PastView.{is_module}
use Rattle.xt_held.proofs.Paying.{brings_edited}
use Rattle.spec_cost.specs.Marking.{edit_marks}
use Rattle.xt_held.specs.declared.origin.Origin.TheVariants.{Edited}
use Rattle.xt_held.proofs.Knowing.{tells_edited}
use Rattle.xt_held.proofs.held.Held.edit.Goals as goal

pub returns-in_ok-document_ready-in-None-clause-brings : goal.returns-in_ok-document_ready-in-None-clause-brings
returns-in_ok-document_ready-in-None-clause-brings c =
    let name = c.args.name in
    let made = c.in_ok-document-in-None in
    let ready = c.in_ok-document_ready-in-None in
    brings_edited name made.field-0.document (λ first. edited_nodes first (edit_of c.args.edit.now)) (is_module name) ready.ensures.kept made.ensures.numbers
    ready.field-0 ready.ensures.brings

pub returns-in_ok-document_ready-in-None-clause-tells : goal.returns-in_ok-document_ready-in-None-clause-tells
returns-in_ok-document_ready-in-None-clause-tells c =
    let made = c.in_ok-document-in-None in
    let ready = c.in_ok-document_ready-in-None in
    let edit = edit_of c.args.edit.now in
    tells_edited c.args.name (Edited c.args.edit) made.field-0.document (λ known old new. edit_marks known edit old new)
    (λ first. edited_nodes first edit) ready.ensures.kept (λ known was. refl) made.ensures.numbers ready.field-0 ready.ensures.tells
