use Rattle.std.proofs.Common.{◌+◌, ◌<◌, ◌≤◌, ◌∙◌, sym, drop, map, arith, ltb-true, ltb-false}
use Rattle.std.proofs.lemmas.Bool.{lt-ltb}
use Rattle.std.proofs.lemmas.List.{at_drop_more}
use Rattle.spec_meaning.specs.Stream.{all_followed, holes}
use Rattle.xt_tree.specs.StreamView.{single_of, stream_of}
use Rattle.xt_tree.proofs.Streams.{holes-followed}
use Rattle.xt_tree.proofs.filling.+has_hole.Goals as goal

pub has_hole-returns-then-item_has_hole : goal.has_hole-returns-then-item_has_hole
has_hole-returns-then-item_has_hole t c =
    let list = c.list-item-items.result.now in
    let item = c.item-item.result in
    let rest = all_followed (map single_of (drop (c.loop-item.item-index + 1) list)) in
    let at = at_drop_more (λ xs. holes (all_followed (map single_of xs))) list c.loop-item.item-index item (omega arith) in
    let here = rw (← c.item-item.is) at at in
    let all = sym c.loop-item.invariant ∙ here ∙ holes-followed (single_of item) rest in
    let some : 0 < holes (single_of item) = ltb-true 0 (holes (single_of item)) (sym c.item_has_hole.ensures ∙ c.if-item_has_hole.true) in
    sym (lt-ltb 0 (holes (stream_of c.args.items.now)) (omega (arith, some, all)))

pub has_hole-loop-item-preserved : goal.has_hole-loop-item-preserved
has_hole-loop-item-preserved t c =
    let list = c.list-item-items.result.now in
    let item = c.item-item.result in
    let rest = all_followed (map single_of (drop (c.loop-item.item-index + 1) list)) in
    let at = at_drop_more (λ xs. holes (all_followed (map single_of xs))) list c.loop-item.item-index item (omega arith) in
    let here = rw (← c.item-item.is) at at in
    let all = sym c.loop-item.invariant ∙ here ∙ holes-followed (single_of item) rest in
    let none : holes (single_of item) ≤ 0 = ltb-false 0 (holes (single_of item)) (sym c.item_has_hole.ensures ∙ c.if-item_has_hole.false) in
    omega (arith, none, all)
