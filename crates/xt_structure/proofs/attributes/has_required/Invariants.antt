use Rattle.std.proofs.Common.{◌≡◌, drop, map}
use Rattle.spec_structure.specs.Structure.{has_required}
use Rattle.xt_structure.specs.View.{row_of}
use Rattle.xt_tree.specs.View.{written_of}
use Rattle.xt_structure.proofs.attributes.has_required.Given as goal

abbrev pub invariant-loop-row : goal.invariant-loop-row
invariant-loop-row l =
    has_required l.scope (map row_of (drop l.row-index l.rows)) (map written_of l.attributes)
    ≡ has_required l.scope (map row_of l.rows) (map written_of l.attributes)
