use Rattle.spec_move.specs.Move.{moved_document, moved_nodes}
use Rattle.spec_session.specs.Request.{Move}
use Rattle.spec_cost.specs.Marking.{move_marks}
use Rattle.xt_held.specs.Marked.{known_in}
use Rattle.xt_held.specs.View.{made_of}
use Rattle.xt_wire.specs.View.{name_of}
use Rattle.xt_session.proofs.Answering.{Edits, brings_edited, edits_not, edits_so, if_ok_map, on_err_then, replies_if_adopted, replies_refusal, stays_kept, tells_edited}
use Rattle.xt_session.proofs.changes.relocate.Goals as goal

pub returns-in-Ok-clause-ok : goal.returns-in-Ok-clause-ok
returns-in-Ok-clause-ok c =
    let held = c.relocate.new.self in
    let asked = name_of c.args.name.now in
    let path = c.args.path.now in
    let other = c.args.other.now in
    let change : Edits = λ made. moved_document made path other in
    let made = c.in-Ok.ensures.answer in
    replies_if_adopted _ (Move asked path other) c.adopt.result (stays_kept c.in-Ok.ensures.kept c.in-Ok.ensures.past)
    (edits_so c.doc_name.result change asked made.0 c.doc_name.ensures made.1 made.2)
    (brings_edited c.doc_name.result (moved_nodes (made_of held) path other) asked c.doc_name.ensures c.in-Ok.ensures.brings)
    (tells_edited c.doc_name.result (moved_nodes (made_of held) path other) (move_marks (known_in held) path other) asked c.doc_name.ensures
    c.in-Ok.ensures.tells)
    c.adopt.ensures.ok c.adopt.ensures.past

pub returns-in-Ok-clause-err : goal.returns-in-Ok-clause-err
returns-in-Ok-clause-err c = on_err_then c.adopt.result _ (stays_kept c.in-Ok.ensures.kept c.in-Ok.ensures.past) c.adopt.ensures.err

pub returns-in-Err-Refused-clause-ok : goal.returns-in-Err-Refused-clause-ok
returns-in-Err-Refused-clause-ok c =
    let asked = name_of c.args.name.now in
    let path = c.args.path.now in
    let other = c.args.other.now in
    let change : Edits = λ made. moved_document made path other in
    let fault = rw c.in-Err-Refused.field-0-is at c.in-Err-Refused.ensures.answer in
    if_ok_map _ _ c.text_of.result
    (λ text e. replies_refusal (Move asked path other) _ (stays_kept c.in-Err-Refused.ensures.kept c.in-Err-Refused.ensures.past)
    (edits_not c.relocate.new.self c.doc_name.result change asked _ c.doc_name.ensures fault) e) c.text_of.ensures
