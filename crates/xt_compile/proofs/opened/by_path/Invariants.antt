use Rattle.std.proofs.Common.{◌≡◌, List, ◌++◌}
use Rattle.xt_top_level.specs.View.{top_levels_in}
use Rattle.xt_top_level.specs.declared.top_level.TopLevel.{TopLevel}
use Rattle.xt_compile.specs.Opened.{IsOpened}
use Rattle.xt_compile.proofs.opened.by_path.Given as goal

abbrev pub invariant-loop-top_level : goal.invariant-loop-top_level
invariant-loop-top_level l =
    (before : List TopLevel) × (before ++ l.top_level-iterator.rest.items ≡ l.fn.top_levels.items) × IsOpened (top_levels_in before) l.by_path.entries
