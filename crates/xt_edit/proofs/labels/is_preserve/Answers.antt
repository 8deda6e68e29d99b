use Rattle.std.proofs.Common.{◌≡◌, refl, ap, ◌∙◌, codes}
use Rattle.std.specs.Prelude.{bytes_eq}
use Rattle.std.specs.Str.{chars, IsUtf8}
use lib.Utf8.{encode}
use Rattle.xt_text.proofs.Chars.{same_chars}
use Rattle.xt_edit.proofs.labels.is_preserve.Goals as goal

word_utf8 : IsUtf8 (codes "preserve")
unfolding encode
word_utf8 = (codes "preserve", (refl, refl))

word_chars : chars (codes "preserve") ≡ codes "preserve"
unfolding chars
word_chars = refl

pub returns : goal.returns
returns c = c.eq.ensures ∙ same_chars c.args.value.now (codes "preserve") c.utf8.value word_utf8 ∙ ap (bytes_eq (chars c.args.value.now)) word_chars
