use Rattle.std.proofs.Common.{◌+◌, ◌++◌, ◌∙◌, sym, ap, drop, map, arith}
use Rattle.std.proofs.lemmas.List.{at_drop_more, append_assoc}
use Rattle.spec_meaning.specs.Stream.{all_followed}
use Rattle.xt_tree.specs.StreamView.{single_of}
use Rattle.xt_questions.specs.Piece.{pieces_of}
use Rattle.xt_questions.specs.View.{piece_of}
use Rattle.xt_questions.proofs.Pieced.{pieces-followed}
use Rattle.xt_questions.proofs.pieces.+pieces.Goals as goal

pub push_pieces-loop-item-preserved : goal.push_pieces-loop-item-preserved
push_pieces-loop-item-preserved t c =
    let list = c.list-item-items.result.now in
    let item = c.item-item.result in
    let done = map piece_of c.loop-item.pieces.items in
    let rest = all_followed (map single_of (drop (c.loop-item.item-index + 1) list)) in
    let at = at_drop_more (λ xs. pieces_of (all_followed (map single_of xs))) list c.loop-item.item-index item (omega arith) in
    let here = rw (← c.item-item.is) at at in
    let ahead = here ∙ pieces-followed (single_of item) rest in
    ap (λ ps. ps ++ pieces_of rest) c.in_ok-push_item.ensures ∙ append_assoc done (pieces_of (single_of item)) (pieces_of rest)
    ∙ ap (λ ps. done ++ ps) (sym ahead) ∙ c.loop-item.invariant
