use Rattle.std.proofs.Common.{List, map, refl, arith}
use Rattle.spec_items.specs.Mentioned.{names_in_part, names_in_parts}
use Rattle.xt_syntax.specs.PartView.{avt_part_of}
use Rattle.xt_syntax.specs.declared.avt.AvtPart.{AvtPart}
use Rattle.xt_lift.proofs.Next.{next_added}
use Rattle.xt_lift.proofs.parts.add_in_avt.Goals as goal

pub loop-part-preserved : goal.loop-part-preserved
loop-part-preserved c =
    next_added (λ (ps : List AvtPart). names_in_parts (map avt_part_of ps)) (λ p. names_in_part (avt_part_of p)) _ c.loop-part.part-index
    c.part-item.result c.loop-part.into.items c.add_in_part.new.into.items (λ left. refl) (omega arith) c.part-item.is c.in_ok-add_in_part.ensures c.loop-part.invariant
