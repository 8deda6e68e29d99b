use Rattle.std.proofs.Common.{◌≡◌, drop}
use Rattle.spec_document.specs.Forest.{followed}
use Rattle.xt_tree.specs.View.{forest_of}
use Rattle.xt_tree.proofs.splice.add.Given as goal

abbrev pub invariant-loop-sibling : goal.invariant-loop-sibling
invariant-loop-sibling l =
    followed (forest_of l.list.items) (forest_of (drop l.sibling-index l.siblings)) ≡ followed (forest_of l.fn.list.items) (forest_of l.siblings)
