use Rattle.std.proofs.Common.{◌≡◌, ◌++◌, drop}
use Rattle.spec_compile.specs.Content.{text_among}
use Rattle.xt_tree.specs.View.{forest_of}
use Rattle.xt_content.proofs.text.text_among.Given as goal

abbrev pub invariant-loop-node : goal.invariant-loop-node
invariant-loop-node l = l.text ++ text_among (forest_of (drop l.node-index l.nodes)) ≡ text_among (forest_of l.nodes)
