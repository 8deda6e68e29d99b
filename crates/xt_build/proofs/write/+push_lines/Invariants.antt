use Rattle.std.proofs.Common.{◌≡◌, ◌++◌, drop}
use Rattle.spec_document.specs.Forest.{lines_of}
use Rattle.xt_tree.specs.View.{forest_of}
use Rattle.xt_build.proofs.write.+push_lines.Given as goal

abbrev pub invariant-loop-sibling : goal.invariant-loop-sibling
invariant-loop-sibling l =
    l.lines.items ++ lines_of (forest_of (drop l.sibling-index l.siblings)) ≡ l.fn.lines.items ++ lines_of (forest_of l.siblings)
