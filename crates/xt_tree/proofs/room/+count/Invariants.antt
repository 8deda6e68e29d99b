use Rattle.std.proofs.Common.{◌≡◌, ◌+◌, drop}
use Rattle.spec_document.specs.Forest.{size}
use Rattle.xt_tree.specs.View.{forest_of}
use Rattle.xt_tree.proofs.room.+count.Given as goal

abbrev pub invariant-loop-sibling : goal.invariant-loop-sibling
invariant-loop-sibling l = l.total + size (forest_of (drop l.sibling-index l.siblings)) ≡ size (forest_of l.siblings)
