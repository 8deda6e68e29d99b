use Rattle.std.proofs.Common.{◌+◌, ◌∙◌, sym, ap, map, drop, arith}
use Rattle.std.proofs.lemmas.List.{at_drop_more, at_drop_all}
use Rattle.spec_meaning.specs.Stream.{all_followed, followed}
use Rattle.spec_run.specs.Direct.{quiet}
use Rattle.xt_tree.specs.StreamView.{single_of, stream_of}
use Rattle.xt_tree.proofs.Streams.{followed-Ended, followed-followed}
use Rattle.xt_streams.specs.Parts.{has_message}
use Rattle.xt_streams.proofs.Streams.{view_Message, quiet_followed, quiet_none}
use Rattle.xt_streams.proofs.messages.+quiet.Goals as goal

pub add_quiet-returns-in-Message : goal.add_quiet-returns-in-Message
add_quiet-returns-in-Message t c =
    sym (followed-Ended (stream_of c.args.list.now)) ∙ ap (λ s. followed (stream_of c.args.list.now) (quiet s)) (sym (ap single_of c.in-Message.is ∙ view_Message _))

pub quiet-returns-then-not-has_message : goal.quiet-returns-then-not-has_message
quiet-returns-then-not-has_message t c =
    let none = ap (λ i. has_message (stream_of i)) (sym c.deref.ensures) ∙ sym c.has_message.ensures ∙ c.if-not-has_message.true in
    ap stream_of c.in_ok-clone.ensures.cases ∙ sym (quiet_none (stream_of c.args.items.now.value) none)

pub quiet-loop-item-preserved : goal.quiet-loop-item-preserved
quiet-loop-item-preserved t c =
    let list = c.list-item-items.result.now in
    let item = c.item-item.result in
    let rest = all_followed (map single_of (drop (c.loop-item.item-index + 1) list)) in
    let at = at_drop_more (λ xs. quiet (all_followed (map single_of xs))) list c.loop-item.item-index item (omega arith) in
    let here = rw (← c.item-item.is) at at in
    ap (λ s. followed s (quiet rest)) c.in_ok-add_quiet.ensures ∙ followed-followed (stream_of c.loop-item.list) (quiet (single_of item)) (quiet rest)
    ∙ ap (followed (stream_of c.loop-item.list)) (sym (here ∙ quiet_followed (single_of item) rest)) ∙ c.loop-item.invariant

pub quiet-returns : goal.quiet-returns
quiet-returns t c =
    let list = c.list-item-items.result.now in
    let at = at_drop_all (λ xs. quiet (all_followed (map single_of xs))) list c.loop-item.item-index (omega arith) in
    ap stream_of c.in_ok-new.ensures.ok ∙ sym (followed-Ended (stream_of c.loop-item.list)) ∙ ap (followed (stream_of c.loop-item.list)) (sym at) ∙ c.loop-item.invariant
