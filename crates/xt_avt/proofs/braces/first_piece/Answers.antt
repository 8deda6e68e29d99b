use Rattle.xt_avt.proofs.Fronts.{empty_chars}
use Rattle.xt_avt.proofs.braces.first_piece.Goals as goal

pub returns-in-None : goal.returns-in-None
returns-in-None c = empty_chars c.args.text.now (c.in-None.ensures {u = tt})
