use Rattle.std.proofs.Common.{◌∙◌}
use Rattle.xt_text.proofs.Chars.{same_chars}
use Rattle.xt_text.proofs.text.Text.same.Goals as goal

pub returns : goal.returns
returns c =
    c.eq.ensures ∙ rw (← c.as_str.ensures.characters, ← c.as_str-2.ensures.characters) (same_chars _ _ c.as_str.utf8 c.as_str-2.utf8)
