use Rattle.std.proofs.Common.{◌≡◌, ◌++◌, drop}
use Rattle.std.specs.Prelude.{map}
use Rattle.spec_document.specs.Forest.{labels}
use Rattle.xt_tree.specs.View.{forest_of, itself}
use Rattle.xp_axes.proofs.along.+take_all.Given as goal

abbrev pub invariant-loop-sibling : goal.invariant-loop-sibling
invariant-loop-sibling l =
    l.found.items ++ map itself (labels (forest_of (drop l.sibling-index l.siblings))) ≡ l.fn.found.items ++ map itself (labels (forest_of l.siblings))
