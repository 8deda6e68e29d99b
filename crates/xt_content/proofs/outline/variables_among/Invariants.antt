use Rattle.std.proofs.Common.{◌≡◌, ◌++◌, drop, map}
use Rattle.std.specs.List.{flat_map}
use Rattle.spec_compile.specs.Walk.{variables_in_template}
use Rattle.xt_syntax.specs.PartView.{literal_attribute_of}
use Rattle.xt_content.proofs.outline.variables_among.Given as goal

abbrev pub invariant-loop-attribute : goal.invariant-loop-attribute
invariant-loop-attribute l =
    l.variables.items ++ flat_map (λ a. variables_in_template a.value) (map literal_attribute_of (drop l.attribute-index l.attributes))
    ≡ flat_map (λ a. variables_in_template a.value) (map literal_attribute_of l.attributes)
