use Rattle.std.proofs.Common.{◌≡◌, ◌++◌, map, drop}
use Rattle.spec_edit.specs.Edit.{without_attribute}
use Rattle.xt_tree.specs.View.{written_of}
use Rattle.xt_edit.proofs.attributes.attributes_without.Given as goal

-- what was kept, with what is left to be kept, is all that is kept
abbrev pub invariant-loop-attribute : goal.invariant-loop-attribute
invariant-loop-attribute l =
    map written_of l.list.items ++ without_attribute l.name (map written_of (drop l.attribute-index l.attributes))
    ≡ without_attribute l.name (map written_of l.attributes)
