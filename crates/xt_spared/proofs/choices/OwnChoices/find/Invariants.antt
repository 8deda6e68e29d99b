use Rattle.std.proofs.Common.{◌≤◌, length}
use Rattle.xt_spared.proofs.choices.OwnChoices.find.Given as goal

abbrev pub invariant-loop-turn : goal.invariant-loop-turn
invariant-loop-turn l = l.end ≤ length l.self.list.items

abbrev pub decreases-loop-turn : goal.decreases-loop-turn
decreases-loop-turn l = l.end
