use Rattle.std.proofs.Common.{ap, refl, sym, ◌∙◌}
use Rattle.std.specs.Prelude.{codes}
use Rattle.spec_session.specs.Reply.{reply_text}
use Rattle.xt_wire.specs.View.{refusal_of, reply_of}
use Rattle.xt_wire.proofs.Written.{written, written_refusal}
use Rattle.xt_wire.proofs.Texts.{ascii_chars}
use Rattle.xt_wire.proofs.write.reply.Goals as goal

pub returns-in-OkDone : goal.returns-in-OkDone
returns-in-OkDone c =
    written c.from_str.result _ (reply_text (reply_of c.args.reply.now))
    (ascii_chars (codes "ok done\n") refl ∙ sym (ap (λ r. reply_text (reply_of r)) c.in-OkDone.is)) c.from_str.ensures

pub returns-in-OkRefused : goal.returns-in-OkRefused
returns-in-OkRefused c =
    written c.refusal_line.result _ (reply_text (reply_of c.args.reply.now))
    (written_refusal (codes "ok refused ") (refusal_of c.in-OkRefused.why) refl ∙ sym (ap (λ r. reply_text (reply_of r)) c.in-OkRefused.is))
    c.refusal_line.ensures

pub returns-in-OkPending : goal.returns-in-OkPending
returns-in-OkPending c =
    written c.from_str-in-OkPending.result _ (reply_text (reply_of c.args.reply.now))
    (ascii_chars (codes "ok pending\n") refl ∙ sym (ap (λ r. reply_text (reply_of r)) c.in-OkPending.is)) c.from_str-in-OkPending.ensures

pub returns-in-OkDropped : goal.returns-in-OkDropped
returns-in-OkDropped c =
    written c.from_str-in-OkDropped.result _ (reply_text (reply_of c.args.reply.now))
    (ascii_chars (codes "ok dropped\n") refl ∙ sym (ap (λ r. reply_text (reply_of r)) c.in-OkDropped.is)) c.from_str-in-OkDropped.ensures

pub returns-in-Refused : goal.returns-in-Refused
returns-in-Refused c =
    written c.refusal_line-in-Refused.result _ (reply_text (reply_of c.args.reply.now))
    (written_refusal (codes "refused ") (refusal_of c.in-Refused.why) refl ∙ sym (ap (λ r. reply_text (reply_of r)) c.in-Refused.is))
    c.refusal_line-in-Refused.ensures
