use Rattle.std.proofs.Common.{◌≡◌, ◌++◌, drop}
use Rattle.xt_edit.specs.Telling.{numbers_in}
use Rattle.xt_tree.specs.View.{forest_of}
use Rattle.xt_touch.specs.Loose.{loose_among}
use Rattle.xt_touch.proofs.children.no_elements.Given as goal

abbrev pub invariant-loop-sibling : goal.invariant-loop-sibling
invariant-loop-sibling l =
    numbers_in l.list.items ++ loose_among (forest_of (drop l.sibling-index l.siblings)) ≡ loose_among (forest_of l.siblings)
