use Rattle.std.proofs.Common.{List, map, refl, arith}
use Rattle.std.specs.List.{flat_map}
use Rattle.spec_compile.specs.Walk.{variables_in_part}
use Rattle.xt_syntax.specs.PartView.{avt_part_of}
use Rattle.xt_syntax.specs.declared.avt.AvtPart.{AvtPart}
use Rattle.xt_attributes.proofs.Adding.{next_added}
use Rattle.xt_attributes.proofs.variables.add_template_variables.Goals as goal

pub loop-part-preserved : goal.loop-part-preserved
loop-part-preserved c =
    next_added (λ (ps : List AvtPart). flat_map variables_in_part (map avt_part_of ps)) (λ p. variables_in_part (avt_part_of p)) _ c.loop-part.part-index
    c.part-item.result c.loop-part.into.items c.add_in_part.new.into.items (λ left. refl) (omega arith) c.part-item.is c.in_ok-add_in_part.ensures c.loop-part.invariant
