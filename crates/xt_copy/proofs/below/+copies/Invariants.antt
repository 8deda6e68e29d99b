use Rattle.std.proofs.Common.{◌≡◌, ◌+◌, ◌*◌, drop}
use Rattle.spec_document.specs.Forest.{size}
use Rattle.spec_meaning.specs.Stream.{followed}
use Rattle.xt_tree.specs.StreamView.{stream_of}
use Rattle.xt_tree.specs.View.{forest_of, tree_of}
use Rattle.xt_copy.specs.Copied.{copied_in}
use Rattle.xt_copy.proofs.below.+copies.Given as goal

-- the copies of the siblings ahead are left
abbrev pub invariant-push_copies-loop-sibling : goal.invariant-push_copies-loop-sibling
invariant-push_copies-loop-sibling l =
    followed (stream_of l.items) (copied_in l.scope (forest_of (drop l.sibling-index l.siblings)))
    ≡ followed (stream_of l.fn.items) (copied_in l.scope (forest_of l.siblings))

-- how many nodes are left
abbrev pub decreases-push_copies : goal.decreases-push_copies
decreases-push_copies l = 2 * size (forest_of l.siblings.now) + 1

abbrev pub decreases-push_copy : goal.decreases-push_copy
decreases-push_copy l = 2 * size (tree_of l.node.now).children + 2
