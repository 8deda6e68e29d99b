use Rattle.std.proofs.Common.{◌≡◌, ◌+◌, length}
use Rattle.xt_import.proofs.steps.push_steps.Given as goal

abbrev pub invariant-loop-step : goal.invariant-loop-step
invariant-loop-step l = length l.turns.items ≡ length l.fn.turns.items + l.step-index
