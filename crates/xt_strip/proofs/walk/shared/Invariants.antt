use Rattle.std.proofs.Common.{◌≡◌, take}
use Rattle.xt_tree.specs.View.{forest_of}
use Rattle.xt_strip.proofs.walk.shared.Given as goal

abbrev pub invariant-loop-sibling : goal.invariant-loop-sibling
invariant-loop-sibling l = l.nodes ≡ forest_of (take l.sibling-index l.siblings)
