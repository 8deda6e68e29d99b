use Rattle.std.proofs.Common.{length, map, reverse}
use Rattle.xt_import.specs.Gathering.{IsOnTheWay, tasks_cost}
use Rattle.xt_import.specs.Parts.{stylesheet_in}
use Rattle.xt_import.specs.View.{modules_in}
use Rattle.xt_import.proofs.precedence.stylesheets.Given as goal

abbrev pub invariant-loop-task : goal.invariant-loop-task
invariant-loop-task l =
    IsOnTheWay (modules_in l.fn.modules.entries) l.fn.main (length l.fn.modules.entries) (map stylesheet_in l.sheets.items) (reverse l.tasks.items)

abbrev pub decreases-loop-task : goal.decreases-loop-task
decreases-loop-task l = tasks_cost (modules_in l.fn.modules.entries) (reverse l.tasks.items)
