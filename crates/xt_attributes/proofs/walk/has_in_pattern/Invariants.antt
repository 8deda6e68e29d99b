use Rattle.std.proofs.Common.{◌≡◌, drop, map}
use Rattle.std.specs.List.{list_any}
use Rattle.spec_compile.specs.Walk.{has_in_alternative}
use Rattle.xt_attributes.specs.Sought.{sought_in}
use Rattle.xt_syntax.specs.PartView.{alternative_of}
use Rattle.xt_attributes.proofs.walk.has_in_pattern.Given as goal

abbrev pub invariant-loop-alternative : goal.invariant-loop-alternative
invariant-loop-alternative l = list_any (has_in_alternative (sought_in l.sought)) (map alternative_of (drop l.alternative-index l.alternative-items)) ≡ list_any (has_in_alternative (sought_in l.sought)) (map alternative_of l.alternative-items)
