use Rattle.std.proofs.Common.{◌∙◌, List, map, refl, sym, arith}
use Rattle.std.specs.List.{list_any}
use Rattle.spec_compile.specs.Walk.{has_in_part}
use Rattle.xt_syntax.specs.PartView.{avt_part_of}
use Rattle.xt_syntax.specs.declared.avt.AvtPart.{AvtPart}
use Rattle.xt_attributes.specs.Sought.{sought_in}
use Rattle.xt_attributes.proofs.Searching.{next_sought}
use Rattle.xt_attributes.proofs.walk.has_in_template.Goals as goal

pub loop-part-preserved : goal.loop-part-preserved
loop-part-preserved c =
    next_sought (λ (ps : List AvtPart). list_any (has_in_part (sought_in c.args.sought)) (map avt_part_of ps)) (λ p. has_in_part (sought_in c.args.sought) (avt_part_of p))
    _ c.loop-part.part-index c.part-item.result (λ left. refl) (omega arith) c.part-item.is (sym c.has_in_part.ensures ∙ c.if-has_in_part.false)
    c.loop-part.invariant
