use Rattle.std.proofs.Common.{◌≡◌, ◌++◌, drop}
use Rattle.std.specs.Prelude.{filter}
use Rattle.xt_syntax.specs.View.{test_of}
use Rattle.xp_axes.specs.View.{is_passing}
use Rattle.xp_axes.proofs.passing.passing.Given as goal

abbrev pub invariant-loop-node : goal.invariant-loop-node
invariant-loop-node l =
    l.kept.items ++ filter (is_passing l.document l.axis (test_of l.test)) (drop l.node-index l.nodes)
    ≡ filter (is_passing l.document l.axis (test_of l.test)) l.nodes
