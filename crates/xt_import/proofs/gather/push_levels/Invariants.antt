use Rattle.std.proofs.Common.{◌≡◌, ◌++◌, length, reverse}
use Rattle.xt_import.specs.Gathering.{pendings_by}
use Rattle.xt_import.specs.Levels.{top_levels_in}
use Rattle.xt_import.proofs.gather.push_levels.Given as goal

abbrev pub invariant-loop-level : goal.invariant-loop-level
invariant-loop-level l =
    pendings_by l.module_name l.depth (top_levels_in l.levels.items) ++ reverse l.pending.items
    ≡ pendings_by l.module_name l.depth (top_levels_in l.fn.levels.items) ++ reverse l.fn.pending.items

abbrev pub decreases-loop-level : goal.decreases-loop-level
decreases-loop-level l = length l.levels.items
