use Rattle.std.proofs.Common.{◌∙◌}
use Rattle.xt_text.proofs.Chars.{no_chars}
use Rattle.xt_text.proofs.text.Text.is_empty.Goals as goal

pub returns : goal.returns
returns c = c.is_empty.ensures ∙ rw (← c.as_str.ensures.characters) (no_chars _ c.as_str.utf8)
