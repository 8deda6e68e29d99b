use Rattle.std.proofs.Common.{◌∙◌, sym}
use Rattle.spec_edit.specs.Edit.{edited_document, edited_nodes}
use Rattle.xt_edit.specs.View.{edit_of}
use Rattle.spec_cost.specs.Marking.{edit_marks}
use Rattle.xt_held.specs.Marked.{known_in}
use Rattle.xt_held.specs.View.{made_of}
use Rattle.xt_wire.specs.View.{name_of}
use Rattle.xt_session.specs.State.{request_by, state_of}
use Rattle.xt_session.proofs.Answering.{Edits, brings_asked, brings_edited, edit_asked, edits_not, edits_so, if_ok_map, on_err_then}
use Rattle.xt_session.proofs.Answering.{replies_if_adopted, replies_refusal, stays_kept, tells_asked, tells_edited}
use Rattle.xt_session.proofs.changes.edit.Goals as goal

pub returns-in-Ok-clause-ok : goal.returns-in-Ok-clause-ok
returns-in-Ok-clause-ok c =
    let held = c.edit.new.self in
    let asked = name_of c.args.name.now in
    let edit = edit_of c.args.edit.now in
    let change : Edits = λ made. edited_document made edit in
    let made = c.in-Ok.ensures.answer in
    replies_if_adopted _ (request_by asked edit) c.adopt.result (stays_kept c.in-Ok.ensures.kept c.in-Ok.ensures.past)
    (edits_so c.doc_name.result change asked made.0 c.doc_name.ensures made.1 made.2 ∙ edit_asked (state_of held) asked edit)
    (brings_asked edit asked (brings_edited c.doc_name.result (edited_nodes (made_of held) edit) asked c.doc_name.ensures c.in-Ok.ensures.brings))
    (tells_asked edit asked (tells_edited c.doc_name.result (edited_nodes (made_of held) edit) (edit_marks (known_in held) edit) asked c.doc_name.ensures
    c.in-Ok.ensures.tells))
    c.adopt.ensures.ok c.adopt.ensures.past

pub returns-in-Ok-clause-err : goal.returns-in-Ok-clause-err
returns-in-Ok-clause-err c = on_err_then c.adopt.result _ (stays_kept c.in-Ok.ensures.kept c.in-Ok.ensures.past) c.adopt.ensures.err

pub returns-in-Err-Refused-clause-ok : goal.returns-in-Err-Refused-clause-ok
returns-in-Err-Refused-clause-ok c =
    let held = c.edit.new.self in
    let asked = name_of c.args.name.now in
    let edit = edit_of c.args.edit.now in
    let change : Edits = λ made. edited_document made edit in
    let fault = rw c.in-Err-Refused.field-0-is at c.in-Err-Refused.ensures.answer in
    if_ok_map _ _ c.text_of.result
    (λ text e. replies_refusal (request_by asked edit) _ (stays_kept c.in-Err-Refused.ensures.kept c.in-Err-Refused.ensures.past)
    (sym (edit_asked (state_of held) asked edit) ∙ edits_not held c.doc_name.result change asked _ c.doc_name.ensures fault) e) c.text_of.ensures
