use Rattle.std.proofs.Common.{◌≡◌, ◌++◌, length, reverse}
use Rattle.xt_import.specs.Gathering.{orders_of}
use Rattle.xt_import.proofs.precedence.push_imports.Given as goal

abbrev pub invariant-loop-target : goal.invariant-loop-target
invariant-loop-target l =
    orders_of l.imports.items ++ reverse l.tasks.items ≡ orders_of l.fn.imports.items ++ reverse l.fn.tasks.items

abbrev pub decreases-loop-target : goal.decreases-loop-target
decreases-loop-target l = length l.imports.items
