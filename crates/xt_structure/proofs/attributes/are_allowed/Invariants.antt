use Rattle.std.proofs.Common.{◌≡◌, drop, map}
use Rattle.std.specs.Str.{chars}
use Rattle.spec_structure.specs.Structure.{are_allowed}
use Rattle.xt_structure.specs.View.{row_of}
use Rattle.xt_tree.specs.View.{written_of}
use Rattle.xt_structure.proofs.attributes.are_allowed.Given as goal

abbrev pub invariant-loop-attribute : goal.invariant-loop-attribute
invariant-loop-attribute l =
    are_allowed l.scope (chars l.uri) (map row_of l.rows) (map written_of (drop l.attribute-index l.attributes))
    ≡ are_allowed l.scope (chars l.uri) (map row_of l.rows) (map written_of l.attributes)
