use Rattle.std.proofs.Common.{◌≡◌, ◌++◌, drop, map}
use Rattle.spec_items.specs.Mentioned.{names_in_attributes}
use Rattle.xt_syntax.specs.PartView.{literal_attribute_of}
use Rattle.xt_lift.proofs.parts.add_in_attributes.Given as goal

abbrev pub invariant-loop-attribute : goal.invariant-loop-attribute
invariant-loop-attribute l = l.into.items ++ names_in_attributes (map literal_attribute_of (drop l.attribute-index l.attributes)) ≡ l.fn.into.items ++ names_in_attributes (map literal_attribute_of l.attributes)
