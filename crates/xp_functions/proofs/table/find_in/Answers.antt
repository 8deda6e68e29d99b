use Rattle.xp_functions.proofs.Rows.{found_here}
use Rattle.xp_functions.proofs.table.find_in.Goals as goal

pub returns-then-is : goal.returns-then-is
returns-then-is c =
    found_here c.args.rows.now c.loop-row.row-index _ _ _ _ _ c.loop-row-test.true c.is.ensures c.if-is.true c.taking.ensures c.loop-row.invariant
