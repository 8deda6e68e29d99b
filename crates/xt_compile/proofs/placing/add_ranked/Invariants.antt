use Rattle.std.proofs.Common.{◌≡◌, map, ◌++◌}
use Rattle.spec_compile.specs.Sheet as spec
use Rattle.xt_scoping.specs.View.{ranked_in}
use Rattle.xt_top_level.specs.View.{top_levels_in}
use Rattle.xt_compile.proofs.placing.add_ranked.Given as goal

abbrev pub invariant-loop-top_level : goal.invariant-loop-top_level
invariant-loop-top_level l =
    map ranked_in l.ranked.items ++ map (spec.ranked l.fn.precedence l.fn.imported) (top_levels_in l.top_level-iterator.rest.items)
    ≡ map ranked_in l.fn.ranked.items ++ map (spec.ranked l.fn.precedence l.fn.imported) (top_levels_in l.fn.top_levels.items)
