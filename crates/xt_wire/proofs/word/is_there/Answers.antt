use Rattle.xt_wire.proofs.FirstWords.{is_there-bytes}
use Rattle.xt_wire.proofs.word.is_there.Goals as goal

pub returns : goal.returns
returns c = is_there-bytes c.args.text.now c.is_empty.result c.utf8.text c.is_empty.ensures
