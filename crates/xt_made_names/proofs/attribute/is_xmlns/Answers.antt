use Rattle.std.proofs.Common.{refl, ap, ◌∙◌, codes, bytes_eq}
use Rattle.std.specs.Str.{chars, IsUtf8}
use lib.Utf8.{encode}
use Rattle.xt_text.proofs.Chars.{same_chars}
use Rattle.xt_names.proofs.Words.{xmlns_chars}
use Rattle.xt_made_names.proofs.attribute.is_xmlns.Goals as goal

word_utf8 : IsUtf8 (codes "xmlns")
unfolding encode
word_utf8 = (codes "xmlns", (refl, refl))

pub returns : goal.returns
returns c = c.eq.ensures ∙ same_chars c.args.text.now (codes "xmlns") c.utf8.text word_utf8 ∙ ap (bytes_eq (chars c.args.text.now)) xmlns_chars
