use Rattle.std.proofs.Common.{◌≡◌, map, drop}
use Rattle.spec_document.specs.Declaration.{declared_all}
use Rattle.xt_tree.specs.View.{written_of}
use Rattle.xt_structure.proofs.inside.scope_within.Given as goal

abbrev pub invariant-loop-attribute : goal.invariant-loop-attribute
invariant-loop-attribute l = declared_all (map written_of (drop l.attribute-index l.attributes)) l.scope ≡ declared_all (map written_of l.attributes) l.outer
