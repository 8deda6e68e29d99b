use Rattle.std.proofs.Common.{◌≡◌, ◌+◌, ◌≤◌, drop}
use Rattle.xt_tree.specs.View.{forest_of}
use Rattle.xt_strip.specs.Along.{shown_count}
use Rattle.xt_strip.specs.View.{around_of}
use Rattle.xt_strip.proofs.along.count_shown.Given as goal

-- those counted and those left are all
abbrev pub invariant-loop-sibling : goal.invariant-loop-sibling
invariant-loop-sibling l =
    (l.count + shown_count (around_of l.fn.around) (forest_of (drop l.sibling-index l.siblings)) ≡ shown_count (around_of l.fn.around) (forest_of l.siblings))
    × (l.count ≤ l.sibling-index)
