use Rattle.std.proofs.Common.{◌≡◌, ◌++◌, map, drop}
use Rattle.xt_tree.specs.View.{written_of}
use Rattle.xt_edit.proofs.attributes.attributes_copied.Given as goal

-- what was copied, with what is left, is all
abbrev pub invariant-loop-attribute : goal.invariant-loop-attribute
invariant-loop-attribute l = map written_of l.list.items ++ map written_of (drop l.attribute-index l.attributes) ≡ map written_of l.attributes
