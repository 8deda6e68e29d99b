use Rattle.std.proofs.Common.{ℕ, List, Result, sym, ap, ◌∙◌, subst}
use Rattle.std.specs.Str.{chars}
use Rattle.std.specs.List.{list_all}
use Rattle.std.specs.Str.{is_utf8}
use Rattle.std.proofs.lemmas.Str.{is_utf8-from_IsUtf8}
use Rattle.spec_session.specs.Request.{Request, Words, words_of, request_by}
use Rattle.xt_wire.specs.View.{Reads}
use Rattle.xt_wire.proofs.Taken.{line_no_text, body_no_text, all_text}
use Rattle.xt_wire.proofs.Texts.{not_utf8}
use Rattle.xt_wire.proofs.command.Command.read.Goals as goal
use Rattle.xt_wire.proofs.command.Command.read.Goals.{in_default-via-in-Ok+else-are_texts, in_default-via-in_default}

pub returns-in-Ok : goal.returns-in-Ok
returns-in-Ok c =
    let text = c.in-Ok.ensures.cases in
    let whole = all_text c.args.line.now c.args.body.items (is_utf8-from_IsUtf8 c.args.line.now text.1)
    (ap (list_all is_utf8) (sym c.as_slice.ensures.value) ∙ sym c.are_texts.ensures ∙ c.if-are_texts.true) in
    subst (λ (a : Result Request ℕ). Reads c.read_words.result a)
    (ap (λ (w : Words). request_by w c.args.body.items) (c.first_word-words.ensures ∙ ap (λ (t : List ℕ). words_of (chars t)) text.0) ∙ sym whole)
    c.read_words.ensures

pub returns-in_default : goal.returns-in_default
returns-in_default c =
    elim c.in_default.branch [
      | in_default-via-in-Ok+else-are_texts w ↦ body_no_text c.args.line.now c.args.body.items
          (is_utf8-from_IsUtf8 c.args.line.now w.in-Ok.ensures.cases.1)
          (ap (list_all is_utf8) (sym w.as_slice.ensures.value) ∙ sym w.are_texts.ensures ∙ w.if-are_texts.false)
      | in_default-via-in_default w ↦ line_no_text c.args.line.now c.args.body.items (not_utf8 c.args.line.now w.in_default.ensures.cases.0)
    ]
