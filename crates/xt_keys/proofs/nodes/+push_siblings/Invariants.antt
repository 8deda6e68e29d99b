use Rattle.std.proofs.Common.{◌≡◌, ◌++◌, drop}
use Rattle.xt_tree.specs.View.{forest_of}
use Rattle.xt_keys.specs.Nodes.{refs_in}
use Rattle.xt_keys.proofs.nodes.+push_siblings.Given as goal

abbrev pub invariant-loop-sibling : goal.invariant-loop-sibling
invariant-loop-sibling l =
    l.nodes.items ++ refs_in l.scope (forest_of (drop l.sibling-index l.siblings)) ≡ l.fn.nodes.items ++ refs_in l.scope (forest_of l.siblings)
