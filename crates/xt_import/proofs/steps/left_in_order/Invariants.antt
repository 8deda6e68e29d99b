use Rattle.std.proofs.Common.{◌+◌, length}
use Rattle.std.specs.List.{sum_by}
use Rattle.xt_import.specs.Walk.{links_left}
use Rattle.xt_import.proofs.steps.left_in_order.Given as goal

abbrev pub decreases-loop-turn : goal.decreases-loop-turn
decreases-loop-turn l = length l.turns.items + sum_by links_left l.steps.items
