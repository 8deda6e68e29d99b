use Rattle.std.proofs.Common.{◌≡◌, ◌+◌, drop}
use Rattle.spec_structure.specs.Structure.{links_of}
use Rattle.xt_tree.specs.View.{forest_of}
use Rattle.xt_structure.proofs.module.links_of.Given as goal

abbrev pub invariant-loop-i : goal.invariant-loop-i
invariant-loop-i l = links_of (l.i + 1) (forest_of (drop l.i l.siblings)) ≡ links_of 1 (forest_of l.siblings)
