use Rattle.std.proofs.Common.{◌+◌, ◌∙◌, ◌++◌, sym, ap, drop, map, arith, append_assoc}
use Rattle.std.proofs.lemmas.List.{at_drop_more, at_drop_all, append-nil}
use Rattle.spec_meaning.specs.Stream.{all_followed}
use Rattle.spec_result.specs.Recovery.{messages_of}
use Rattle.xt_tree.specs.StreamView.{single_of}
use Rattle.xt_result.proofs.Streams.{messages_of-followed}
use Rattle.xt_result.proofs.message.+push.Goals as goal

-- no item is ahead
pub push_items-returns : goal.push_items-returns
push_items-returns t c =
    let text = c.loop-item.list.items in
    sym (append-nil text)
    ∙ sym (at_drop_all (λ xs. text ++ messages_of (all_followed (map single_of xs))) c.list-item-items.result.now c.loop-item.item-index (omega arith))
    ∙ c.loop-item.invariant

pub push_items-loop-item-preserved : goal.push_items-loop-item-preserved
push_items-loop-item-preserved t c =
    let list = c.list-item-items.result.now in
    let item = c.item-item.result in
    let rest = all_followed (map single_of (drop (c.loop-item.item-index + 1) list)) in
    let at = at_drop_more (λ xs. messages_of (all_followed (map single_of xs))) list c.loop-item.item-index item (omega arith) in
    let here = rw (← c.item-item.is) at at in
    ap (λ text. text ++ messages_of rest) c.in_ok-push_item.ensures
    ∙ append_assoc c.loop-item.list.items (messages_of (single_of item)) (messages_of rest)
    ∙ ap (λ more. c.loop-item.list.items ++ more) (sym (here ∙ messages_of-followed (single_of item) rest))
    ∙ c.loop-item.invariant
