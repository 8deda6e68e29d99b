use Rattle.std.proofs.Common.{◌≡◌, ◌++◌, map, drop}
use Rattle.spec_edit.specs.Edit.{set_in}
use Rattle.xt_tree.specs.View.{written_of}
use Rattle.xt_edit.proofs.attributes.attributes_with.Given as goal

-- what was set, with what is left to be set, is all that is set
abbrev pub invariant-loop-attribute : goal.invariant-loop-attribute
invariant-loop-attribute l =
    map written_of l.list.items ++ map (set_in l.name l.value) (map written_of (drop l.attribute-index l.attributes))
    ≡ map (set_in l.name l.value) (map written_of l.attributes)
