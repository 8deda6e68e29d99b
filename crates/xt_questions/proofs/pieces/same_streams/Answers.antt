use Rattle.std.proofs.Common.{◌∙◌, ◌++◌, ap, map}
use Rattle.xt_tree.specs.StreamView.{stream_of}
use Rattle.xt_questions.specs.Piece.{pieces_of}
use Rattle.xt_questions.specs.View.{piece_of}
use Rattle.xt_questions.proofs.Pieced.{same_pieces}
use Rattle.xt_questions.proofs.pieces.same_streams.Goals as goal

pub returns : goal.returns
returns c =
    let stream = stream_of c.args.items.now in
    let other = stream_of c.args.others.now in
    same_pieces c.all_alike.result (map piece_of c.as_slice.result.now) (map piece_of c.as_slice-2.result.now) stream other c.all_alike.ensures
    (ap (map piece_of) c.as_slice.ensures.value ∙ c.in_ok-push_pieces.ensures ∙ ap (λ xs. map piece_of xs ++ pieces_of stream) c.new-pieces.ensures.items)
    (ap (map piece_of) c.as_slice-2.ensures.value ∙ c.in_ok-push_pieces-2.ensures ∙ ap (λ xs. map piece_of xs ++ pieces_of other) c.new-other_pieces.ensures.items)
