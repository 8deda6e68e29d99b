use Rattle.std.proofs.Common.{◌≡◌, ◌≤◌, ℕ, List, length, take}
use Rattle.spec_touch.specs.Leads.{AreTold}
use Rattle.xt_tree.specs.View.{forest_of}
use Rattle.xt_touch.specs.Missing.{missing_among}
use Rattle.xt_touch.proofs.sight.before_common_end.Given as goal

abbrev pub invariant-loop-left : goal.invariant-loop-left
invariant-loop-left l = record {
  within : l.left ≤ length l.siblings;
  within_others : l.other ≤ length l.others;
  same : (numbers : List ℕ) → AreTold numbers (forest_of l.others)
      → missing_among numbers (forest_of (take l.left l.siblings)) ≡ missing_among numbers (forest_of l.siblings);
}

abbrev pub decreases-loop-left : goal.decreases-loop-left
decreases-loop-left l = l.left
