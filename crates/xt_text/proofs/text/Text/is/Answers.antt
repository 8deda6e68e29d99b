use Rattle.std.proofs.Common.{◌∙◌}
use Rattle.xt_text.proofs.Chars.{same_chars}
use Rattle.xt_text.proofs.text.Text.is.Goals as goal

pub returns : goal.returns
returns c = c.eq.ensures ∙ rw (← c.as_str.ensures.characters) (same_chars _ _ c.as_str.utf8 c.utf8.text)
