use Rattle.std.proofs.Common.{◌≡◌, ◌+◌, drop}
use Rattle.spec_compile.specs.Unit.{module_of}
use Rattle.xt_tree.specs.View.{forest_of}
use Rattle.xt_top_level.proofs.module.module_among.Given as goal

abbrev pub invariant-loop-i : goal.invariant-loop-i
invariant-loop-i l = module_of l.fn.name (l.i + 1) (forest_of (drop l.i l.siblings)) ≡ module_of l.fn.name 1 (forest_of l.siblings)
