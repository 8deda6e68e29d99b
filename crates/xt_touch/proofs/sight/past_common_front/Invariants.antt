use Rattle.std.proofs.Common.{◌≡◌, ◌≤◌, ◌-◌, ℕ, List, length, drop}
use Rattle.spec_touch.specs.Leads.{AreTold}
use Rattle.xt_tree.specs.View.{forest_of}
use Rattle.xt_touch.specs.Missing.{missing_among}
use Rattle.xt_touch.proofs.sight.past_common_front.Given as goal

abbrev pub invariant-loop-count : goal.invariant-loop-count
invariant-loop-count l = record {
  within : l.count ≤ length l.siblings;
  same : (numbers : List ℕ) → AreTold numbers (forest_of l.others)
      → missing_among numbers (forest_of (drop l.count l.siblings)) ≡ missing_among numbers (forest_of l.siblings);
}

abbrev pub decreases-loop-count : goal.decreases-loop-count
decreases-loop-count l = length l.siblings - l.count
