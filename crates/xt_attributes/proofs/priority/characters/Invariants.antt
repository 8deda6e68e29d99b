use Rattle.std.proofs.Common.{◌≡◌}
use Rattle.xt_attributes.proofs.priority.characters.Given as goal

abbrev pub invariant-loop-character : goal.invariant-loop-character
invariant-loop-character l = l.list.items ≡ l.yielded
