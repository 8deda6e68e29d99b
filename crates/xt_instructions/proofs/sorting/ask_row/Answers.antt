use Rattle.xt_instructions.proofs.Askings.{asks_same}
use Rattle.xt_instructions.proofs.sorting.ask_row.Goals as goal

pub returns-in_ok-add_row-in-Is-clause-asks : goal.returns-in_ok-add_row-in-Is-clause-asks
returns-in_ok-add_row-in-Is-clause-asks g c = asks_same (rw c.in-Is.is at c.in-Ok.ensures.asks) c.in_ok-add_row-in-Is.ensures.left

pub returns-in-Halts-clause-asks : goal.returns-in-Halts-clause-asks
returns-in-Halts-clause-asks g c = rw c.in-Halts.is at c.in-Ok.ensures.asks

pub returns-in-Lacks-clause-asks : goal.returns-in-Lacks-clause-asks
returns-in-Lacks-clause-asks g c = rw c.in-Lacks.is at c.in-Ok.ensures.asks
