use Rattle.std.proofs.Common.{◌≡◌}
use Rattle.spec_document.specs.Forest.{size}
use Rattle.xt_tree.specs.Keys.{key_by, last_key}
use Rattle.xt_tree.specs.View.{tree_of}
use Rattle.xt_tree.proofs.room.last_in.Given as goal

abbrev pub invariant-down : goal.invariant-down
invariant-down l =
    let key = key_by l.keys in
    last_key key (key (tree_of l.current).number) (tree_of l.current).children ≡ last_key key (key (tree_of l.node).number) (tree_of l.node).children

abbrev pub decreases-down : goal.decreases-down
decreases-down l = size (tree_of l.current).children
