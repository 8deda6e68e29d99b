use Rattle.std.proofs.Common.{◌≡◌, ◌+◌, drop}
use Rattle.spec_document.specs.Forest.{size}
use Rattle.xt_tree.specs.View.{forest_of}
use Rattle.xt_edit.proofs.renewal.+number_after.Given as goal

-- the next number and what is left make the last
abbrev pub invariant-loop-node : goal.invariant-loop-node
invariant-loop-node l = l.next + size (forest_of (drop l.node-index l.nodes)) ≡ l.first + size (forest_of l.nodes)
