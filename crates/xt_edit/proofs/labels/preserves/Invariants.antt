use Rattle.std.proofs.Common.{◌≡◌, false, drop}
use Rattle.xt_tree.specs.View.{forest_of}
use Rattle.xt_edit.proofs.Preserved.{walk}
use Rattle.xt_edit.proofs.labels.preserves.Given as goal

-- what is left of the way says what all of it does
abbrev pub invariant-loop-position : goal.invariant-loop-position
invariant-loop-position l =
    walk (drop l.position-index l.path) l.is_preserved (forest_of l.siblings) ≡ walk l.path false l.document.nodes
