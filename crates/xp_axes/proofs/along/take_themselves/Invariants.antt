use Rattle.std.proofs.Common.{◌≡◌, ◌++◌, drop}
use Rattle.xt_tree.specs.View.{forest_of}
use Rattle.xp_axes.specs.Along.{themselves}
use Rattle.xp_axes.proofs.along.take_themselves.Given as goal

abbrev pub invariant-loop-sibling : goal.invariant-loop-sibling
invariant-loop-sibling l =
    l.found.items ++ themselves (forest_of (drop l.sibling-index l.siblings)) ≡ l.fn.found.items ++ themselves (forest_of l.siblings)
