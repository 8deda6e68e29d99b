use Rattle.std.proofs.Common.{◌+◌, ◌∙◌, ◌++◌, refl, sym, ap, drop, map, arith}
use Rattle.std.proofs.lemmas.List.{at_drop_more, at_drop_all}
use Rattle.spec_meaning.specs.Stream.{all_followed}
use Rattle.spec_result.specs.Recovery.{messages_of}
use Rattle.xt_tree.specs.StreamView.{single_of}
use Rattle.xt_result.proofs.Streams.{messages_of-followed, none_first}
use Rattle.xt_result.proofs.message.+silence.Goals as goal

-- no item is ahead
pub are_silent-returns : goal.are_silent-returns
are_silent-returns t c = (
  λ so. c.loop-item.invariant
      ∙ at_drop_all (λ xs. messages_of (all_followed (map single_of xs))) c.list-item-items.result.now c.loop-item.item-index (omega arith),
  λ none. refl,
)

pub are_silent-loop-item-preserved : goal.are_silent-loop-item-preserved
are_silent-loop-item-preserved t c =
    let list = c.list-item-items.result.now in
    let item = c.item-item.result in
    let rest = all_followed (map single_of (drop (c.loop-item.item-index + 1) list)) in
    let at = at_drop_more (λ xs. messages_of (all_followed (map single_of xs))) list c.loop-item.item-index item (omega arith) in
    let here = rw (← c.item-item.is) at at in
    c.loop-item.invariant ∙ here ∙ messages_of-followed (single_of item) rest
    ∙ ap (λ xs. xs ++ messages_of rest) (c.says_nothing.ensures.0 c.if-not-says_nothing.false)

pub are_silent-returns-then-not-says_nothing : goal.are_silent-returns-then-not-says_nothing
are_silent-returns-then-not-says_nothing t c =
    let list = c.list-item-items.result.now in
    let item = c.item-item.result in
    let rest = all_followed (map single_of (drop (c.loop-item.item-index + 1) list)) in
    let at = at_drop_more (λ xs. messages_of (all_followed (map single_of xs))) list c.loop-item.item-index item (omega arith) in
    let here = rw (← c.item-item.is) at at in (
      λ so. absurd (cc),
      λ none.
          sym c.if-not-says_nothing.true
          ∙ c.says_nothing.ensures.1 (none_first (messages_of (single_of item)) (messages_of rest)
          (sym (messages_of-followed (single_of item) rest) ∙ sym here ∙ sym c.loop-item.invariant ∙ none)),
    )
