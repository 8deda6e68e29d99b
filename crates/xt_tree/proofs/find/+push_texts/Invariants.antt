use Rattle.std.proofs.Common.{◌≡◌, ◌++◌, drop}
use Rattle.spec_document.specs.Forest.{texts_in}
use Rattle.xt_tree.specs.View.{forest_of}
use Rattle.xt_tree.proofs.find.+push_texts.Given as goal

abbrev pub invariant-loop-sibling : goal.invariant-loop-sibling
invariant-loop-sibling l =
    l.text ++ texts_in (forest_of (drop l.sibling-index l.siblings)) ≡ l.fn.text ++ texts_in (forest_of l.siblings)
