use Rattle.xt_edit.proofs.Moves.{origin_refused}
use Rattle.xt_edit.proofs.site.site_at.Goals as goal

pub returns-in-Err : goal.returns-in-Err
returns-in-Err c first change =
    rw c.refused.ensures (origin_refused c.args.document.now c.args.path.now c.in-Err.code c.in-Err.ensures first change)
