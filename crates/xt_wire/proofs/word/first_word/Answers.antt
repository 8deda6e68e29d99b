use Rattle.std.proofs.Common.{sym}
use Rattle.std.specs.Str.{chars}
use Rattle.xt_wire.proofs.FirstWords.{uncut}
use Rattle.xt_wire.proofs.word.first_word.Goals as goal

pub returns-in-None : goal.returns-in-None
returns-in-None c = sym (uncut (chars c.args.text.now) c.in-None.ensures)
