use Rattle.std.proofs.Common.{◌≡◌, drop}
use Rattle.spec_structure.specs.Structure.{any_left}
use Rattle.xt_tree.specs.View.{forest_of}
use Rattle.xt_structure.proofs.code.any_left.Given as goal

abbrev pub invariant-loop-sibling : goal.invariant-loop-sibling
invariant-loop-sibling l = any_left l.preserves (forest_of (drop l.sibling-index l.siblings)) ≡ any_left l.preserves (forest_of l.siblings)
