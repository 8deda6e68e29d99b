use Rattle.std.proofs.Common.{◌≡◌, ◌+◌, drop}
use Rattle.spec_document.specs.Forest.{followed, numbered, size}
use Rattle.xt_tree.specs.View.{forest_of}
use Rattle.xt_tree.proofs.remade.+numbered.Given as goal

abbrev pub invariant-loop-sibling : goal.invariant-loop-sibling
invariant-loop-sibling l =
    (followed l.nodes (numbered l.next (forest_of (drop l.sibling-index l.siblings))) ≡ numbered l.fn.next (forest_of l.siblings))
    × (l.next + size (forest_of (drop l.sibling-index l.siblings)) ≡ l.fn.next + size (forest_of l.siblings))
