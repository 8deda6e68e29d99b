use Rattle.std.proofs.Common.{◌≡◌, drop}
use Rattle.spec_document.specs.Forest.{followed}
use Rattle.xt_tree.specs.View.{forest_of}
use Rattle.xt_strip.proofs.along.push_all.Given as goal

-- what is there, with those that are left, is all
abbrev pub invariant-loop-sibling : goal.invariant-loop-sibling
invariant-loop-sibling l = followed l.nodes (forest_of (drop l.sibling-index l.siblings)) ≡ followed l.fn.nodes (forest_of l.siblings)
