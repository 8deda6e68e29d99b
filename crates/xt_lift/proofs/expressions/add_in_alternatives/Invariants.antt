use Rattle.std.proofs.Common.{◌≡◌, ◌++◌, drop, map}
use Rattle.std.specs.List.{flat_map}
use Rattle.spec_transform.specs.Numbering.{names_in_alternative}
use Rattle.xt_syntax.specs.PartView.{alternative_of}
use Rattle.xt_lift.proofs.expressions.add_in_alternatives.Given as goal

abbrev pub invariant-loop-alternative : goal.invariant-loop-alternative
invariant-loop-alternative l = l.into.items ++ flat_map names_in_alternative (map alternative_of (drop l.alternative-index l.alternatives)) ≡ l.fn.into.items ++ flat_map names_in_alternative (map alternative_of l.alternatives)
