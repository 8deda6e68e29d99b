use Rattle.std.proofs.Common.{◌≡◌, ◌++◌, drop, map}
use Rattle.std.specs.List.{flat_map}
use Rattle.spec_compile.specs.Walk.{variables_in_alternative}
use Rattle.xt_syntax.specs.PartView.{alternative_of}
use Rattle.xt_attributes.proofs.variables.add_in_pattern.Given as goal

abbrev pub invariant-loop-alternative : goal.invariant-loop-alternative
invariant-loop-alternative l = l.into.items ++ flat_map variables_in_alternative (map alternative_of (drop l.alternative-index l.alternative-items)) ≡ l.fn.into.items ++ flat_map variables_in_alternative (map alternative_of l.alternative-items)
