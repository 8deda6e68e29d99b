use Rattle.std.proofs.Common.{◌+◌, drop, sym, ap, ◌∙◌, arith}
use Rattle.std.specs.Option.{option_and_then}
use Rattle.std.proofs.lemmas.List.{at_drop_more, at_drop_all}
use Rattle.spec_document.specs.Place.{node_at}
use Rattle.spec_move.specs.Move.{preserves_inside}
use Rattle.xt_tree.specs.View.{forest_of}
use Rattle.xt_edit.proofs.Preserved.{walk, walk-at, walked, nowhere}
use Rattle.xt_edit.proofs.labels.preserves.Goals as goal

pub returns-in-None : goal.returns-in-None
returns-in-None c =
    let document = c.args.document.now in
    let ps = c.args.path.now in
    let i = c.loop-position.position-index in
    let kept = c.loop-position.is_preserved in
    nowhere kept (node_at document ps)
    (ap (option_and_then (λ tree. walk (drop (i + 1) ps) (preserves_inside kept tree.content) tree.children)) c.in-None.ensures
    ∙ sym (at_drop_more (λ rest. walk rest kept (forest_of c.loop-position.siblings.now)) ps i 0 (omega arith))
    ∙ c.loop-position.invariant ∙ walk-at document ps)

pub returns : goal.returns
returns c =
    let document = c.args.document.now in
    let ps = c.args.path.now in
    let i = c.loop-position.position-index in
    let kept = c.loop-position.is_preserved in
    walked kept (node_at document ps)
    (sym (at_drop_all (λ rest. walk rest kept (forest_of c.loop-position.siblings.now)) ps i (omega arith))
    ∙ c.loop-position.invariant ∙ walk-at document ps)
