use Rattle.std.proofs.Common.{◌∙◌}
use Rattle.xt_text.proofs.Chars.{same_chars}
use Rattle.xt_structure.proofs.text.same.Goals as goal

pub returns : goal.returns
returns c = c.eq.ensures ∙ same_chars c.args.text.now c.args.other.now c.utf8.text c.utf8.other
