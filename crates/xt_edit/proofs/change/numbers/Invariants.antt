use Rattle.std.proofs.Common.{◌≡◌, ◌++◌, drop}
use Rattle.spec_change.specs.Change.{sibling_labels}
use Rattle.xt_tree.specs.View.{forest_of}
use Rattle.xt_edit.specs.Telling.{numbers_in}
use Rattle.xt_edit.proofs.change.numbers.Given as goal

abbrev pub invariant-loop-sibling : goal.invariant-loop-sibling
invariant-loop-sibling l =
    numbers_in l.list.items ++ sibling_labels (forest_of (drop l.sibling-index l.siblings)) ≡ sibling_labels (forest_of l.siblings)
