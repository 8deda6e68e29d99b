use Rattle.std.proofs.Common.{◌≡◌, ◌+◌, ◌++◌, drop}
use Rattle.spec_structure.specs.Structure.{links_among}
use Rattle.xt_structure.specs.View.{in_force, links_in}
use Rattle.xt_tree.specs.View.{forest_of}
use Rattle.xt_structure.proofs.links.links_among.Given as goal

abbrev pub invariant-loop-i : goal.invariant-loop-i
invariant-loop-i l =
    links_in l.links.items ++ links_among (in_force l.inside) l.path (l.i + 1) (forest_of (drop l.i l.siblings))
    ≡ links_among (in_force l.inside) l.path 1 (forest_of l.siblings)
