use Rattle.std.proofs.Common.{◌∙◌}
use Rattle.xt_text.proofs.Chars.{same_chars}
use Rattle.xt_wire.proofs.word.is_word.Goals as goal

pub returns : goal.returns
returns c = c.eq.ensures ∙ same_chars c.args.word.now c.args.other.now c.utf8.word c.utf8.other
