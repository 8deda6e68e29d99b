use Rattle.std.proofs.Common.{rules, ltb-false, nat_lt, ℕ, length, ◌≤◌, ◌≡◌, ◌∙◌, ◌+◌, sym, ap, drop, map, arith}
use Rattle.std.proofs.lemmas.List.{at_drop_more, at_drop_all}
use Rattle.spec_meaning.specs.Stream.{all_followed, followed, holes, first_of, filled}
use Rattle.xt_tree.specs.declared.items.Item.{the_lemmas}
use Rattle.xt_tree.specs.StreamView.{single_of, stream_of, streams_of}
use Rattle.xt_tree.proofs.Streams.{view-Hole, view-Part, followed-Ended, followed-followed, holes-followed, filled_first, filled-none}
use Rattle.xt_tree.proofs.filling.+filled.Goals as goal

pub filled_item-returns-in_ok-part-in-Hole-clause-stream :
    goal.filled_item-returns-in_ok-part-in-Hole-clause-stream
filled_item-returns-in_ok-part-in-Hole-clause-stream t c =
    let next = c.args.next.now in
    let left = streams_of (drop next c.args.parts.now) in
    let hole = ap single_of c.in-Hole.is ∙ view-Hole in
    let none : 1 + 0 ≡ 1 = omega arith in
    let one : holes (single_of c.args.item.now) ≡ 1 = ap holes hole ∙ none in
    let at = at_drop_more (λ ps. first_of (streams_of ps)) c.args.parts.now next c.index-parts-next.result (omega (arith, one, c.requires)) in
    let here = rw (← c.index-parts-next.is) at at in
    view-Part c.in_ok-part-in-Hole.part ∙ ap stream_of c.in_ok-part-in-Hole.ensures.cases ∙ sym here ∙ sym (followed-Ended (first_of left))
    ∙ ap (λ s. filled s left) (sym hole)

-- the parts are enough for the next item
enough : (t : ℕ) (c : goal.filled-After-filled_item-arg-1 t) → c.loop-item.next + holes (single_of c.item-item.result) ≤ length c.args.parts.now
enough t c =
    let list = c.list-item-items.result.now in
    let rest = all_followed (map single_of (drop (c.loop-item.item-index + 1) list)) in
    let at = at_drop_more (λ xs. holes (all_followed (map single_of xs))) list c.loop-item.item-index c.item-item.result (omega arith) in
    let here = rw (← c.item-item.is) at at in
    let more = here ∙ holes-followed (single_of c.item-item.result) rest in
    omega (arith, more, c.loop-item.invariant.next, c.requires)

pub filled-filled_item-requires : goal.filled-filled_item-requires
filled-filled_item-requires t c = (search (rules, the_lemmas), enough t c)

pub filled-loop-item-preserved : goal.filled-loop-item-preserved
filled-loop-item-preserved t c =
    let list = c.list-item-items.result.now in
    let item = c.item-item.result in
    let rest = all_followed (map single_of (drop (c.loop-item.item-index + 1) list)) in
    let at = at_drop_more (λ xs. all_followed (map single_of xs)) list c.loop-item.item-index item (omega arith) in
    let here = rw (← c.item-item.is) at at in
    let more = ap holes here ∙ holes-followed (single_of item) rest in
    let left = streams_of (drop c.loop-item.next c.args.parts.now) in
    let behind = filled rest (streams_of (drop (c.loop-item.next + holes (single_of item)) c.args.parts.now)) in
    let first = ap (λ s. filled s left) here ∙ filled_first (single_of item) rest c.loop-item.next c.args.parts.now in
    let longer = c.in_ok-push.ensures.ok ∙ ap (followed (stream_of c.loop-item.list)) c.in_ok-whole.ensures.stream in
    record {
      next = omega (arith, more, c.in_ok-whole.ensures.next, c.loop-item.invariant.next);
      stream = ap (λ n. followed (stream_of c.push.new.self) (filled rest (streams_of (drop n c.args.parts.now)))) c.in_ok-whole.ensures.next
          ∙ ap (λ s. followed s behind) longer ∙ followed-followed (stream_of c.loop-item.list) (filled (single_of item) left) behind
          ∙ ap (followed (stream_of c.loop-item.list)) (sym first) ∙ c.loop-item.invariant.stream;
    }

pub filled-returns-clause-stream : goal.filled-returns-clause-stream
filled-returns-clause-stream t c =
    let list = c.list-item-items.result.now in
    let left = streams_of (drop c.loop-item.next c.args.parts.now) in
    let at = at_drop_all (λ xs. filled (all_followed (map single_of xs)) left) list c.loop-item.item-index (omega arith) in
    ap stream_of c.in_ok-new.ensures.ok ∙ sym (followed-Ended (stream_of c.loop-item.list)) ∙ ap (followed (stream_of c.loop-item.list)) (sym at)
    ∙ c.loop-item.invariant.stream

-- a content without holes is as it is
pub filled_content-returns-in_ok-clone : goal.filled_content-returns-in_ok-clone
filled_content-returns-in_ok-clone t c =
    let stream = stream_of c.args.content.now.value in
    let few : holes stream ≤ 0 =
    ltb-false 0 (holes stream) (ap (λ i. nat_lt 0 (holes (stream_of i))) (sym c.deref.ensures) ∙ sym c.has_hole.ensures ∙ c.if-has_hole.false) in
    let none : holes stream ≡ 0 = omega (arith, few) in
    record {
      next = omega (arith, none);
      stream = ap stream_of (c.in_ok-clone.ensures {u = tt}).cases ∙ sym (filled-none stream none (streams_of (drop c.args.next.now c.args.parts.now)));
    }
