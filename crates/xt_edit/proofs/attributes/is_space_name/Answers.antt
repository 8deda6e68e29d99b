use Rattle.std.proofs.Common.{◌≡◌, refl, ap, ◌∙◌, codes}
use Rattle.std.specs.Prelude.{bytes_eq}
use Rattle.std.specs.Str.{chars, IsUtf8}
use lib.Utf8.{encode}
use Rattle.xt_text.proofs.Chars.{same_chars}
use Rattle.xt_edit.proofs.attributes.is_space_name.Goals as goal

word_utf8 : IsUtf8 (codes "xml:space")
unfolding encode
word_utf8 = (codes "xml:space", (refl, refl))

word_chars : chars (codes "xml:space") ≡ codes "xml:space"
unfolding chars
word_chars = refl

pub returns : goal.returns
returns c = c.eq.ensures ∙ same_chars c.args.name.now (codes "xml:space") c.utf8.name word_utf8 ∙ ap (bytes_eq (chars c.args.name.now)) word_chars
