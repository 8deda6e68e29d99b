use Rattle.std.proofs.Common.{◌+◌, ◌∙◌, sym, ap, drop, map, arith}
use Rattle.std.specs.Prelude.{◌||◌}
use Rattle.std.proofs.lemmas.List.{at_drop_more}
use Rattle.spec_meaning.specs.Stream.{all_followed}
use Rattle.spec_result.specs.Recovery.{has_child}
use Rattle.xt_tree.specs.StreamView.{single_of}
use Rattle.xt_result.proofs.Streams.{has_child-followed}
use Rattle.xt_result.proofs.leading.+has_child.Goals as goal

pub has_child-returns-then-is_child : goal.has_child-returns-then-is_child
has_child-returns-then-is_child t c =
    let list = c.list-item-items.result.now in
    let item = c.item-item.result in
    let rest = all_followed (map single_of (drop (c.loop-item.item-index + 1) list)) in
    let at = at_drop_more (λ xs. has_child (all_followed (map single_of xs))) list c.loop-item.item-index item (omega arith) in
    let here = rw (← c.item-item.is) at at in
    ap (λ b. b || has_child rest) (sym (sym c.is_child.ensures ∙ c.if-is_child.true)) ∙ sym (here ∙ has_child-followed (single_of item) rest)
    ∙ c.loop-item.invariant

pub has_child-loop-item-preserved : goal.has_child-loop-item-preserved
has_child-loop-item-preserved t c =
    let list = c.list-item-items.result.now in
    let item = c.item-item.result in
    let rest = all_followed (map single_of (drop (c.loop-item.item-index + 1) list)) in
    let at = at_drop_more (λ xs. has_child (all_followed (map single_of xs))) list c.loop-item.item-index item (omega arith) in
    let here = rw (← c.item-item.is) at at in
    ap (λ b. b || has_child rest) (sym (sym c.is_child.ensures ∙ c.if-is_child.false)) ∙ sym (here ∙ has_child-followed (single_of item) rest)
    ∙ c.loop-item.invariant
