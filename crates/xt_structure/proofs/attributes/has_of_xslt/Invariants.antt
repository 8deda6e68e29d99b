use Rattle.std.proofs.Common.{◌≡◌, drop, map}
use Rattle.spec_structure.specs.Structure.{has_of_xslt}
use Rattle.xt_tree.specs.View.{written_of}
use Rattle.xt_structure.proofs.attributes.has_of_xslt.Given as goal

abbrev pub invariant-loop-attribute : goal.invariant-loop-attribute
invariant-loop-attribute l = has_of_xslt l.scope (map written_of (drop l.attribute-index l.attributes)) ≡ has_of_xslt l.scope (map written_of l.attributes)
