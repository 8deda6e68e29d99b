use Rattle.std.proofs.Common.{◌≡◌, ◌+◌, drop}
use Rattle.spec_structure.specs.Modules.{top_levels_of}
use Rattle.xt_tree.specs.View.{forest_of}
use Rattle.xt_import.proofs.top.levels_of.Given as goal

abbrev pub invariant-loop-i : goal.invariant-loop-i
invariant-loop-i l = top_levels_of (l.i + 1) (forest_of (drop l.i l.siblings)) ≡ top_levels_of 1 (forest_of l.siblings)
