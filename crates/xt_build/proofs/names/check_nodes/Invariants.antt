use Rattle.std.proofs.Common.{◌≡◌, ◌+◌, [], drop, reverse}
use Rattle.spec_document.specs.Fault.{least}
use Rattle.xt_build.specs.Least.{merged}
use Rattle.xt_build.specs.Left.{open_faults}
use Rattle.xt_build.specs.Piece.{open_in}
use Rattle.xt_build.specs.View.{found_of, pieces_of}
use Rattle.xt_build.proofs.names.check_nodes.Given as goal

-- what was found, with the faults of what is left, is what is to be found
abbrev pub invariant-loop-piece : goal.invariant-loop-piece
invariant-loop-piece l =
    merged (found_of l.found) (least (open_faults l.scope (l.depth + 1) (reverse l.scopes.items) (open_in (pieces_of (drop l.piece-index l.pieces)))))
    ≡ merged (found_of l.fn.found) (least (open_faults l.scope (l.depth + 1) [] (open_in (pieces_of l.pieces))))
