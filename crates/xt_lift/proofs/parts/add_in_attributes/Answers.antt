use Rattle.std.proofs.Common.{List, map, refl, arith, rules}
use Rattle.spec_items.specs.Mentioned.{names_in_attributes, names_in_avt}
use Rattle.xt_syntax.specs.PartView.{literal_attribute_of}
use Rattle.xt_syntax.specs.declared.literal.LiteralAttribute.{LiteralAttribute}
use Rattle.xt_lift.proofs.Next.{next_added}
use Rattle.xt_lift.proofs.parts.add_in_attributes.Goals as goal

pub loop-attribute-preserved : goal.loop-attribute-preserved
loop-attribute-preserved c =
    next_added (λ (ones : List LiteralAttribute). names_in_attributes (map literal_attribute_of ones)) (λ a. names_in_avt (literal_attribute_of a).value) c.args.attributes.now
    c.loop-attribute.attribute-index c.attribute-item.result c.loop-attribute.into.items c.add_in_avt.new.into.items (λ left. refl) (omega arith)
    c.attribute-item.is (search rules) c.loop-attribute.invariant
