use Rattle.std.proofs.Common.{◌+◌, ◌∙◌, map, drop, arith}
use Rattle.std.proofs.lemmas.List.{at_drop_more}
use Rattle.spec_meaning.specs.Stream.{all_followed, holes}
use Rattle.xt_tree.specs.StreamView.{single_of}
use Rattle.xt_tree.proofs.Streams.{holes-followed}
use Rattle.xt_streams.proofs.holes.+count.Goals as goal

pub count_holes-loop-item-preserved : goal.count_holes-loop-item-preserved
count_holes-loop-item-preserved t c =
    let list = c.list-item-items.result.now in
    let item = c.item-item.result in
    let rest = all_followed (map single_of (drop (c.loop-item.item-index + 1) list)) in
    let at = at_drop_more (λ xs. holes (all_followed (map single_of xs))) list c.loop-item.item-index item (omega arith) in
    let here = rw (← c.item-item.is) at at in
    let more = here ∙ holes-followed (single_of item) rest in
    omega (arith, more, c.in_ok-more.ensures, c.in_ok-count.ensures, c.loop-item.invariant)
