use Rattle.std.proofs.Common.{◌≡◌, drop, map}
use Rattle.std.specs.Str.{chars}
use Rattle.spec_structure.specs.Structure.{are_named_well}
use Rattle.xt_structure.specs.View.{row_of}
use Rattle.xt_tree.specs.View.{written_of}
use Rattle.xt_structure.proofs.attributes.are_named_well.Given as goal

abbrev pub invariant-loop-attribute : goal.invariant-loop-attribute
invariant-loop-attribute l =
    are_named_well l.scope (chars l.uri) (map row_of l.rows) (map written_of (drop l.attribute-index l.attributes))
    ≡ are_named_well l.scope (chars l.uri) (map row_of l.rows) (map written_of l.attributes)
