use Rattle.std.proofs.Common.{◌≡◌, ◌++◌, drop}
use Rattle.xt_tree.specs.Kept.{names_in}
use Rattle.xt_tree.specs.View.{forest_of}
use Rattle.xt_tree.proofs.names.+push_names.Given as goal

abbrev pub invariant-loop-sibling : goal.invariant-loop-sibling
invariant-loop-sibling l =
    l.list.items ++ names_in l.scope (forest_of (drop l.sibling-index l.siblings)) ≡ l.fn.list.items ++ names_in l.scope (forest_of l.siblings)
