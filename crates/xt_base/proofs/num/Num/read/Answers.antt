use Rattle.xt_base.proofs.Ascii.{number_of-chars}
use Rattle.xt_base.proofs.num.Num.read.Goals as goal

pub returns : goal.returns
returns c = rw (number_of-chars c.args.text.now c.utf8.text, ← c.as_bytes.ensures.value) c.number.ensures
