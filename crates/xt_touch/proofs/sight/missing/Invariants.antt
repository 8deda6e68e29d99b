use Rattle.std.proofs.Common.{◌≡◌, ◌++◌, drop}
use Rattle.spec_document.specs.Forest.{labels}
use Rattle.xt_edit.specs.Telling.{numbers_in}
use Rattle.xt_tree.specs.View.{forest_of}
use Rattle.xt_touch.specs.Missing.{missing_among}
use Rattle.xt_touch.proofs.sight.missing.Given as goal

abbrev pub invariant-loop-sibling : goal.invariant-loop-sibling
invariant-loop-sibling l =
    numbers_in l.list.items ++ missing_among (labels l.other.nodes) (forest_of (drop l.sibling-index l.siblings))
    ≡ missing_among (labels l.other.nodes) (forest_of l.siblings)
