use Rattle.std.proofs.Common.{◌≡◌, drop}
use Rattle.spec_document.specs.Forest.{followed}
use Rattle.xt_tree.specs.View.{forest_of}
use Rattle.xt_edit.proofs.seam.push_others.Given as goal

-- what is there, with the nodes that are left, is all
abbrev pub invariant-loop-node : goal.invariant-loop-node
invariant-loop-node l = followed l.joined (forest_of (drop l.node-index l.nodes)) ≡ followed l.fn.joined (forest_of l.nodes)
