use Rattle.std.proofs.Common.{◌≡◌, ◌++◌, drop}
use Rattle.spec_document.specs.Forest.{labels}
use Rattle.xt_edit.specs.Telling.{numbers_in}
use Rattle.xt_tree.specs.View.{forest_of}
use Rattle.xt_touch.proofs.sight.+push_all.Given as goal

abbrev pub invariant-loop-sibling : goal.invariant-loop-sibling
invariant-loop-sibling l =
    numbers_in l.list.items ++ labels (forest_of (drop l.sibling-index l.siblings)) ≡ numbers_in l.fn.list.items ++ labels (forest_of l.siblings)
