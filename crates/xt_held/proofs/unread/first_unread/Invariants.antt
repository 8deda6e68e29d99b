use Rattle.std.proofs.Common.{◌≡◌, ◌+◌, drop}
use Rattle.xt_held.specs.Unread.{first_unread}
use Rattle.xt_held.proofs.unread.first_unread.Given as goal

abbrev pub invariant-loop-i : goal.invariant-loop-i
invariant-loop-i l = first_unread (1 + l.i) (drop l.i l.lines) ≡ first_unread 1 l.lines
