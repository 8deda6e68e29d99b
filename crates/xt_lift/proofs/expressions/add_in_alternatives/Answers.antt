use Rattle.std.proofs.Common.{List, map, refl, arith, rules}
use Rattle.std.specs.List.{flat_map}
use Rattle.spec_transform.specs.Numbering.{names_in_alternative}
use Rattle.xt_syntax.specs.PartView.{alternative_of}
use Rattle.xt_syntax.specs.declared.pattern.Alternative.{Alternative}
use Rattle.xt_lift.proofs.Next.{next_added}
use Rattle.xt_lift.proofs.expressions.add_in_alternatives.Goals as goal

pub loop-alternative-preserved : goal.loop-alternative-preserved
loop-alternative-preserved c =
    next_added (λ (ones : List Alternative). flat_map names_in_alternative (map alternative_of ones)) (λ a. names_in_alternative (alternative_of a))
    _ c.loop-alternative.alternative-index c.alternative-item.result c.loop-alternative.into.items c.add_in_pattern_steps.new.into.items
    (λ left. refl) (omega arith) c.alternative-item.is (search rules) c.loop-alternative.invariant
