use Rattle.std.proofs.Common.{◌+◌, drop}
use Rattle.spec_compile.specs.Content.{children_among}
use Rattle.xt_content.specs.View.{around_in, below_in}
use Rattle.xt_content.proofs.Siblings.{before_rest}
use Rattle.xt_content.proofs.Steps.{Continues}
use Rattle.xt_tree.specs.View.{forest_of}
use Rattle.xt_content.proofs.body.+children_among.Given as goal

abbrev pub invariant-children_among-loop-i : goal.invariant-children_among-loop-i
invariant-children_among-loop-i l =
    Continues (before_rest (children_among (around_in l.fn.around) l.kind l.fn.path (l.i + 1) (forest_of (drop l.i l.siblings))) (below_in l.found))
    (children_among (around_in l.fn.around) l.fn.kind l.fn.path 1 (forest_of l.siblings))
