use Rattle.std.proofs.Common.{◌+◌, drop}
use Rattle.spec_compile.specs.Unit.{top_levels_among}
use Rattle.xt_content.specs.View.{around_in}
use Rattle.xt_tree.specs.View.{forest_of}
use Rattle.xt_top_level.specs.View.{top_levels_in}
use Rattle.xt_top_level.proofs.Turns.{before_rest}
use Rattle.xt_top_level.proofs.Steps.{Continues}
use Rattle.xt_top_level.proofs.siblings.top_levels_among.Given as goal

abbrev pub invariant-loop-i : goal.invariant-loop-i
invariant-loop-i l =
    Continues (before_rest (top_levels_among (around_in l.fn.around) l.fn.path (l.i + 1) (forest_of (drop l.i l.siblings))) (top_levels_in l.top_levels.items))
    (top_levels_among (around_in l.fn.around) l.fn.path 1 (forest_of l.siblings))
