use Rattle.std.proofs.Common.{◌≡◌, drop}
use Rattle.spec_document.specs.Scope.{root_scope}
use Rattle.xt_tree.specs.View.{forest_of}
use Rattle.xt_copy.specs.Copied.{copied_in, copied_from}
use Rattle.xt_copy.proofs.way.copy_at.Given as goal

abbrev pub invariant-loop-position : goal.invariant-loop-position
invariant-loop-position l =
    copied_from (drop l.position-index l.position-items) (copied_in l.outer (forest_of l.chosen)) l.inner (forest_of l.below)
    ≡ copied_from l.path (copied_in root_scope l.document.nodes) root_scope l.document.nodes
