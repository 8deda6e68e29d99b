use Rattle.std.proofs.Common.{◌≡◌, ◌+◌, ◌++◌, drop}
use Rattle.spec_structure.specs.Modules.{top_levels_among}
use Rattle.xt_import.specs.Levels.{top_levels_in}
use Rattle.xt_structure.specs.View.{in_force}
use Rattle.xt_tree.specs.View.{forest_of}
use Rattle.xt_import.proofs.top.levels_among.Given as goal

abbrev pub invariant-loop-i : goal.invariant-loop-i
invariant-loop-i l =
    top_levels_in l.levels.items ++ top_levels_among (in_force l.inside) l.path (l.i + 1) (forest_of (drop l.i l.siblings))
    ≡ top_levels_among (in_force l.inside) l.path 1 (forest_of l.siblings)
