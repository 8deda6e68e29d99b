use Rattle.std.proofs.Common.{◌≡◌, ◌≤◌, ◌++◌, drop, length, reverse}
use Rattle.xt_import.specs.View.{hrefs_in}
use Rattle.xt_import.proofs.order.push_hrefs.Given as goal

abbrev pub invariant-loop-left : goal.invariant-loop-left
invariant-loop-left l =
    (l.left ≤ length l.links) × (l.pending.items ≡ l.fn.pending.items ++ reverse (hrefs_in (drop l.left l.links)))

abbrev pub decreases-loop-left : goal.decreases-loop-left
decreases-loop-left l = l.left
