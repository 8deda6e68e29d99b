use Rattle.std.proofs.Common.{◌≡◌, ◌+◌, ◌≤◌, drop}
use Rattle.spec_edit.specs.Edit.{element_count}
use Rattle.xt_tree.specs.View.{forest_of}
use Rattle.xt_edit.proofs.insertion.count_elements.Given as goal

-- those counted and those left are all
abbrev pub invariant-loop-sibling : goal.invariant-loop-sibling
invariant-loop-sibling l =
    (l.count + element_count (forest_of (drop l.sibling-index l.siblings)) ≡ element_count (forest_of l.siblings)) × (l.count ≤ l.sibling-index)
