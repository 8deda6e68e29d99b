use Rattle.std.proofs.Common.{◌≡◌, ◌++◌, map, drop}
use Rattle.spec_meaning.specs.Stream.{all_followed}
use Rattle.xt_tree.specs.StreamView.{single_of, stream_of}
use Rattle.xt_questions.specs.Piece.{pieces_of}
use Rattle.xt_questions.specs.View.{piece_of}
use Rattle.xt_questions.proofs.pieces.+pieces.Given as goal

-- the pieces of the items ahead are left
abbrev pub invariant-push_pieces-loop-item : goal.invariant-push_pieces-loop-item
invariant-push_pieces-loop-item l =
    map piece_of l.pieces.items ++ pieces_of (all_followed (map single_of (drop l.item-index l.item-items)))
    ≡ map piece_of l.fn.pieces.items ++ pieces_of (stream_of l.items)
