use Rattle.xt_edit.proofs.Inserting.{position-is}
use Rattle.xt_edit.proofs.insertion.is_position.Goals as goal

pub returns-then-position-ge1 : goal.returns-then-position-ge1
returns-then-position-ge1 c = position-is c.args.position c.args.siblings.now c.if-position-ge1.true
