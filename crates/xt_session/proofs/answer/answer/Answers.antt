use Rattle.std.proofs.Common.{◌≡◌, Ok, Err, sym, ◌∙◌, ap, subst}
use Rattle.spec_session.specs.Command.{Command}
use Rattle.spec_session.specs.Reply.{No, reply_text}
use Rattle.xt_base.specs.Code.{edit_number}
use Rattle.xt_base.specs.declared.codes.EditCode.{EditCode}
use Rattle.spec_session.specs.Request.{request_of}
use Rattle.xt_wire.specs.View.{asked_of, Reads}
use Rattle.xt_session.proofs.Answering.{if_ok_map, command_is, gives_asked, gives_unread}
use Rattle.xt_session.proofs.answer.answer.Goals as goal

pub returns-in-Ok-clause-ok : goal.returns-in-Ok-clause-ok
returns-in-Ok-clause-ok c =
    let command = c.args.command in
    let same = command_is command _ _ (c.as_bytes.ensures ∙ c.into_parts-line.ensures.line) c.into_parts-line.ensures.body in
    let asks : request_of command ≡ Ok (asked_of c.in-Ok.asked) = ap request_of (sym same) ∙ c.in-Ok.ensures in
    if_ok_map _ _ c.carry_out.result (λ text replies. gives_asked c.args.held.now _ command (asked_of c.in-Ok.asked) text asks replies)
    c.carry_out.ensures.ok

pub returns-clause-ok : goal.returns-clause-ok
returns-clause-ok c =
    let command = c.args.command in
    let same = command_is command _ _ (c.as_bytes.ensures ∙ c.into_parts-line.ensures.line) c.into_parts-line.ensures.body in
    let reads = subst (λ (read : Command). Reads (Err c.in-Err.fault) (request_of read)) same c.in-Err.ensures in
    if_ok_map _ _ c.text_of.result
    (λ text e. gives_unread c.args.held.now command c.in-Err.fault text reads
    (e ∙ ap (λ (code : EditCode). reply_text (No (edit_number code))) c.code.ensures))
    c.text_of.ensures
