use Rattle.std.proofs.Common.{◌≡◌, drop, map}
use Rattle.std.specs.Str.{chars}
use Rattle.spec_structure.specs.Inside.{value_of}
use Rattle.xt_tree.specs.View.{written_of}
use Rattle.xt_structure.proofs.expanded.value_of.Given as goal

abbrev pub invariant-loop-attribute : goal.invariant-loop-attribute
invariant-loop-attribute l =
    value_of l.scope (record { uri = chars l.uri; local = chars l.local }) (map written_of (drop l.attribute-index l.attributes))
    ≡ value_of l.scope (record { uri = chars l.uri; local = chars l.local }) (map written_of l.attributes)
