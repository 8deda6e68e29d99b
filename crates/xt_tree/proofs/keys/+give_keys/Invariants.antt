use Rattle.std.proofs.Common.{drop}
use Rattle.xt_tree.specs.Keys.{key_by}
use Rattle.xt_tree.specs.View.{forest_of}
use Rattle.xt_tree.proofs.Given.{Progress}
use Rattle.xt_tree.proofs.keys.+give_keys.Given as goal

abbrev pub invariant-loop-sibling : goal.invariant-loop-sibling
invariant-loop-sibling l =
    Progress (key_by l.fn.keys) (key_by l.keys) l.fn.last l.last l.step (forest_of l.siblings) (forest_of (drop l.sibling-index l.siblings))
