use Rattle.std.proofs.Common.{◌+◌, length}
use Rattle.std.specs.List.{sum_by}
use Rattle.xt_import.specs.Walk.{links_left}
use Rattle.xt_import.proofs.steps.walk.Given as goal

abbrev pub decreases-loop-step : goal.decreases-loop-step
decreases-loop-step l = length l.turns.items + sum_by links_left l.steps.items
