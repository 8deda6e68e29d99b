use Rattle.std.proofs.Common.{◌≡◌, [], drop}
use Rattle.xt_tree.specs.View.{forest_of}
use Rattle.xt_edit.specs.Telling.{numbers_in}
use Rattle.xt_edit.proofs.Ways.{walk}
use Rattle.xt_edit.proofs.change.way_to.Given as goal

-- what is left of the way leads where all of it does
abbrev pub invariant-loop-position : goal.invariant-loop-position
invariant-loop-position l =
    walk (drop l.position-index l.path) l.node.number (numbers_in l.above.items) (forest_of l.children) ≡ walk l.path l.document.root [] l.document.nodes
