use Rattle.std.proofs.Common.{List, map, refl, arith, rules}
use Rattle.std.specs.List.{flat_map}
use Rattle.spec_compile.specs.Walk.{variables_in_alternative}
use Rattle.xt_syntax.specs.PartView.{alternative_of}
use Rattle.xt_syntax.specs.declared.pattern.Alternative.{Alternative}
use Rattle.xt_attributes.proofs.Adding.{next_added}
use Rattle.xt_attributes.proofs.variables.add_in_pattern.Goals as goal

pub loop-alternative-preserved : goal.loop-alternative-preserved
loop-alternative-preserved c =
    next_added (λ (ones : List Alternative). flat_map variables_in_alternative (map alternative_of ones)) (λ a. variables_in_alternative (alternative_of a))
    _ c.loop-alternative.alternative-index c.alternative-item.result c.loop-alternative.into.items c.add_in_pattern_steps.new.into.items
    (λ left. refl) (omega arith) c.alternative-item.is (search rules) c.loop-alternative.invariant
