use Rattle.std.proofs.Common.{◌≡◌, drop, map}
use Rattle.spec_move.specs.Move.{space_by}
use Rattle.xt_tree.specs.View.{written_of}
use Rattle.xt_edit.proofs.labels.space_by.Given as goal

-- those that are left say what all do
abbrev pub invariant-loop-attribute : goal.invariant-loop-attribute
invariant-loop-attribute l =
    space_by l.outside (map written_of (drop l.attribute-index l.attributes)) ≡ space_by l.outside (map written_of l.attributes)
