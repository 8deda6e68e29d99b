use Rattle.std.proofs.Common.{◌≡◌, ◌+◌, [], ◌∷◌}
use Rattle.spec_document.specs.Forest.{Empty, numbered, size}
use Rattle.spec_document.specs.Top.{kept}
use Rattle.xt_build.specs.Piece.{open_in, forest_in, AreClosed}
use Rattle.xt_build.specs.Left.{kept_open, open_size}
use Rattle.xt_build.specs.View.{pieces_of}
use Rattle.xt_build.proofs.OpenNodes.{whole, coming}
use Rattle.xt_build.proofs.make.make_nodes.Given as goal

-- what is made so far and what is to come are the whole
abbrev pub invariant-loop-piece : goal.invariant-loop-piece
invariant-loop-piece l =
    record {
      goes : (goal.iterator-loop-piece).can_next l.piece-iterator × (goal.iterator-loop-piece).is_finite l.piece-iterator;
      made : whole l.open.items l.nodes (coming l.next l.others (open_in (pieces_of l.piece-iterator.rest.items)))
          ≡ numbered l.first (kept l.others (forest_in (pieces_of l.fn.pieces.items))) ∷ [];
      closed : AreClosed (pieces_of l.piece-iterator.rest.items) (Empty ∷ []);
      left : l.next + open_size (kept_open l.others (open_in (pieces_of l.piece-iterator.rest.items)))
          ≡ l.first + size (kept l.others (forest_in (pieces_of l.fn.pieces.items)));
    }
