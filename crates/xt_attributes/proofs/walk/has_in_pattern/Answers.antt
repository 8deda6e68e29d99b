use Rattle.std.proofs.Common.{List, map, refl, arith, rules}
use Rattle.std.specs.List.{list_any}
use Rattle.spec_compile.specs.Walk.{has_in_alternative}
use Rattle.xt_syntax.specs.PartView.{alternative_of}
use Rattle.xt_syntax.specs.declared.pattern.Alternative.{Alternative}
use Rattle.xt_attributes.specs.Sought.{sought_in}
use Rattle.xt_attributes.proofs.Searching.{next_sought}
use Rattle.xt_attributes.proofs.walk.has_in_pattern.Goals as goal

pub loop-alternative-preserved : goal.loop-alternative-preserved
loop-alternative-preserved c =
    next_sought (λ (ones : List Alternative). list_any (has_in_alternative (sought_in c.args.sought)) (map alternative_of ones))
    (λ a. has_in_alternative (sought_in c.args.sought) (alternative_of a)) _ c.loop-alternative.alternative-index c.alternative-item.result
    (λ left. refl) (omega arith) c.alternative-item.is (search rules) c.loop-alternative.invariant
