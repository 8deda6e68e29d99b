use Rattle.std.proofs.Common.{◌≡◌, ◌+◌, drop}
use Rattle.spec_structure.specs.Structure.{fault_of}
use Rattle.xt_tree.specs.View.{forest_of}
use Rattle.xt_structure.proofs.module.fault_of.Given as goal

abbrev pub invariant-loop-i : goal.invariant-loop-i
invariant-loop-i l = fault_of (l.i + 1) (forest_of (drop l.i l.siblings)) ≡ fault_of 1 (forest_of l.siblings)
