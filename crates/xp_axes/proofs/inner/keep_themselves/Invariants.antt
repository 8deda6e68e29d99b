use Rattle.std.proofs.Common.{◌≡◌, ◌++◌, drop}
use Rattle.std.specs.Prelude.{filter}
use Rattle.xt_syntax.specs.View.{test_of}
use Rattle.xt_tree.specs.View.{forest_of}
use Rattle.xp_axes.specs.Along.{themselves}
use Rattle.xp_axes.specs.View.{is_passing}
use Rattle.xp_axes.proofs.inner.keep_themselves.Given as goal

abbrev pub invariant-loop-sibling : goal.invariant-loop-sibling
invariant-loop-sibling l =
    l.found.items ++ filter (is_passing l.document l.axis (test_of l.test)) (themselves (forest_of (drop l.sibling-index l.siblings)))
    ≡ l.fn.found.items ++ filter (is_passing l.document l.axis (test_of l.test)) (themselves (forest_of l.siblings))
