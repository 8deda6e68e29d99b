use Rattle.std.proofs.Common.{◌≡◌, ap, ◌∙◌}
use Rattle.std.specs.Str.{chars}
use Rattle.xt_names.specs.NamesSoFar.{text_in, texts_in, is_written}
use Rattle.xt_names.proofs.Keys.{recovered, text_before, text_kept}
use Rattle.xt_names.proofs.attribute_names.insert_text.Goals as goal

pub returns-clause-before : goal.returns-clause-before
returns-clause-before c =
    let key = c.in_ok-key.key in
    let is : text_in key ≡ chars c.args.text.now = ap chars c.in_ok-key.ensures.ok in
    recovered _ _ c.in_ok-is_new.ensures.added ∙ text_before c.args.texts.now.keys key (chars c.args.text.now) is

pub returns-clause-kept : goal.returns-clause-kept
returns-clause-kept c other =
    let key = c.in_ok-key.key in
    let is : text_in key ≡ chars c.args.text.now = ap chars c.in_ok-key.ensures.ok in
    ap (λ keys. is_written (texts_in keys) other) c.in_ok-is_new.ensures.keys ∙ text_kept c.args.texts.now.keys key (chars c.args.text.now) other is
