use Rattle.std.proofs.Common.{◌+◌, ◌≡◌, ◌∙◌, sym, ap, true, false, drop, map, arith}
use Rattle.std.specs.Prelude.{◌||◌}
use Rattle.std.proofs.lemmas.List.{at_drop_more}
use Rattle.spec_meaning.specs.Stream.{all_followed}
use Rattle.spec_result.specs.Recovery.{has_child, attributes_of, all_added}
use Rattle.xt_tree.specs.StreamView.{single_of}
use Rattle.xt_result.proofs.Streams.{has_child-followed, attributes_of-child, attributes_of-more, all_added-append}
use Rattle.xt_result.proofs.attributes.+add.Goals as goal

pub add_items-returns-then-branch-clause-added : goal.add_items-returns-then-branch-clause-added
add_items-returns-then-branch-clause-added t c =
    let list = c.list-item-items.result.now in
    let item = c.item-item.result in
    let known = c.loop-item.attributes in
    let rest = all_followed (map single_of (drop (c.loop-item.item-index + 1) list)) in
    let at = at_drop_more (λ xs. all_followed (map single_of xs)) list c.loop-item.item-index item (omega arith) in
    let here = rw (← c.item-item.is) at at in
    let ended : has_child (single_of item) ≡ true = sym c.in_ok-add_item.ensures.child ∙ c.if-branch.true in
    c.in_ok-add_item.ensures.added ∙ ap (all_added known) (sym (attributes_of-child (single_of item) rest ended))
    ∙ ap (λ s. all_added known (attributes_of s)) (sym here) ∙ c.loop-item.invariant.added

pub add_items-loop-item-preserved : goal.add_items-loop-item-preserved
add_items-loop-item-preserved t c =
    let list = c.list-item-items.result.now in
    let item = c.item-item.result in
    let known = c.loop-item.attributes in
    let rest = all_followed (map single_of (drop (c.loop-item.item-index + 1) list)) in
    let at = at_drop_more (λ xs. all_followed (map single_of xs)) list c.loop-item.item-index item (omega arith) in
    let here = rw (← c.item-item.is) at at in
    let none : has_child (single_of item) ≡ false = sym c.in_ok-add_item.ensures.child ∙ c.if-branch.false in
    record {
      child = ap (λ b. b || has_child rest) (sym none) ∙ sym (ap has_child here ∙ has_child-followed (single_of item) rest) ∙ c.loop-item.invariant.child;
      added = ap (λ a. all_added a (attributes_of rest)) c.in_ok-add_item.ensures.added
          ∙ sym (all_added-append known (attributes_of (single_of item)) (attributes_of rest))
          ∙ ap (all_added known) (sym (attributes_of-more (single_of item) rest none))
          ∙ ap (λ s. all_added known (attributes_of s)) (sym here) ∙ c.loop-item.invariant.added;
    }

pub add_items-returns-then-branch-clause-child : goal.add_items-returns-then-branch-clause-child
add_items-returns-then-branch-clause-child t c =
    let list = c.list-item-items.result.now in
    let item = c.item-item.result in
    let rest = all_followed (map single_of (drop (c.loop-item.item-index + 1) list)) in
    let at = at_drop_more (λ xs. all_followed (map single_of xs)) list c.loop-item.item-index item (omega arith) in
    let here = rw (← c.item-item.is) at at in
    let ended : has_child (single_of item) ≡ true = sym c.in_ok-add_item.ensures.child ∙ c.if-branch.true in
    ap (λ b. b || has_child rest) (sym ended) ∙ sym (ap has_child here ∙ has_child-followed (single_of item) rest) ∙ c.loop-item.invariant.child
