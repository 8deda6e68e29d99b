use Rattle.std.proofs.Common.{◌≡◌, ap, ◌∙◌, bytes_eq}
use Rattle.std.specs.Str.{chars}
use Rattle.xt_names.specs.NamesSoFar.{text_in, texts_in, is_written}
use Rattle.xt_names.proofs.Keys.{text_kept}
use Rattle.xt_result.proofs.Openings.{turned}
use Rattle.xt_result.proofs.opening.insert_text.Goals as goal

pub returns : goal.returns
returns c other =
    let key = c.in_ok-key.key in
    let is : text_in key ≡ chars c.args.text.now = ap chars c.in_ok-key.ensures.ok in
    ap (λ keys. is_written (texts_in keys) other) c.in_ok-insert.ensures.keys ∙ text_kept c.args.texts.now.keys key (chars c.args.text.now) other is
    ∙ turned (is_written (texts_in c.args.texts.now.keys) other) (bytes_eq (chars c.args.text.now) other)
