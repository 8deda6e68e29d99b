use Rattle.std.proofs.Common.{◌≡◌, drop, nat_lt}
use Rattle.spec_document.specs.Forest.{height}
use Rattle.xt_tree.specs.View.{forest_of}
use Rattle.xt_edit.proofs.placing.+is_higher.Given as goal

-- those that are left have more levels where all do
abbrev pub invariant-loop-sibling : goal.invariant-loop-sibling
invariant-loop-sibling l = nat_lt l.levels (height (forest_of (drop l.sibling-index l.siblings))) ≡ nat_lt l.levels (height (forest_of l.siblings))
