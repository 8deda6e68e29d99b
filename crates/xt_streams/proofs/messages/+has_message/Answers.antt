use Rattle.std.proofs.Common.{◌+◌, ◌∙◌, sym, ap, drop, map, ◌||◌, arith}
use Rattle.std.proofs.lemmas.Bool.{or_left}
use Rattle.std.proofs.lemmas.List.{at_drop_more}
use Rattle.spec_meaning.specs.Stream.{all_followed}
use Rattle.xt_tree.specs.StreamView.{single_of}
use Rattle.xt_streams.specs.Parts.{has_message}
use Rattle.xt_streams.proofs.Streams.{message_followed}
use Rattle.xt_streams.proofs.messages.+has_message.Goals as goal

pub has_message-returns-then-item_has_message : goal.has_message-returns-then-item_has_message
has_message-returns-then-item_has_message t c =
    let list = c.list-item-items.result.now in
    let item = c.item-item.result in
    let rest = all_followed (map single_of (drop (c.loop-item.item-index + 1) list)) in
    let at = at_drop_more (λ xs. has_message (all_followed (map single_of xs))) list c.loop-item.item-index item (omega arith) in
    let here = rw (← c.item-item.is) at at in
    let all = sym c.loop-item.invariant ∙ here ∙ message_followed (single_of item) rest in
    sym (or_left (has_message (single_of item)) (has_message rest) (sym c.item_has_message.ensures ∙ c.if-item_has_message.true)) ∙ sym all

pub has_message-loop-item-preserved : goal.has_message-loop-item-preserved
has_message-loop-item-preserved t c =
    let list = c.list-item-items.result.now in
    let item = c.item-item.result in
    let rest = all_followed (map single_of (drop (c.loop-item.item-index + 1) list)) in
    let at = at_drop_more (λ xs. has_message (all_followed (map single_of xs))) list c.loop-item.item-index item (omega arith) in
    let here = rw (← c.item-item.is) at at in
    let all = sym c.loop-item.invariant ∙ here ∙ message_followed (single_of item) rest in
    sym (all ∙ ap (λ b. b || has_message rest) (sym c.item_has_message.ensures ∙ c.if-item_has_message.false))
