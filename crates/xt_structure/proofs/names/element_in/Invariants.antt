use Rattle.std.proofs.Common.{◌≡◌, map, drop}
use Rattle.std.specs.Str.{chars}
use Rattle.spec_structure.specs.Elements.{element_in}
use Rattle.xt_structure.specs.View.{naming_of}
use Rattle.xt_structure.proofs.names.element_in.Given as goal

abbrev pub invariant-loop-naming : goal.invariant-loop-naming
invariant-loop-naming l =
    element_in (map naming_of (drop l.naming-index l.names)) (chars l.local) ≡ element_in (map naming_of l.names) (chars l.local)
