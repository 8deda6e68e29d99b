use Rattle.std.proofs.Common.{◌≡◌, ◌+◌, drop}
use Rattle.spec_structure.specs.Structure.{fault_among}
use Rattle.xt_structure.specs.View.{in_force}
use Rattle.xt_tree.specs.View.{forest_of}
use Rattle.xt_structure.proofs.walk.+fault_among.Given as goal

abbrev pub invariant-fault_among-loop-i : goal.invariant-fault_among-loop-i
invariant-fault_among-loop-i l =
    fault_among (in_force l.fn.inside) l.kind l.fn.path (l.i + 1) (forest_of (drop l.i l.siblings))
    ≡ fault_among (in_force l.fn.inside) l.fn.kind l.fn.path 1 (forest_of l.siblings)
