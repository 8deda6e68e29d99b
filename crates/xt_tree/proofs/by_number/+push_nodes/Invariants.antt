use Rattle.std.proofs.Common.{◌≡◌, ◌++◌, drop}
use Rattle.xt_tree.specs.ByNumber.{trees_in, trees_of}
use Rattle.xt_tree.specs.View.{forest_of}
use Rattle.xt_tree.proofs.by_number.+push_nodes.Given as goal

abbrev pub invariant-loop-sibling : goal.invariant-loop-sibling
invariant-loop-sibling l =
    trees_of l.list.items ++ trees_in (forest_of (drop l.sibling-index l.siblings)) ≡ trees_of l.fn.list.items ++ trees_in (forest_of l.siblings)
