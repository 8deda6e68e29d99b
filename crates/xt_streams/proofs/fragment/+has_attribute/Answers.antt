use Rattle.std.proofs.Common.{◌+◌, ◌∙◌, sym, ap, drop, map, ◌||◌, arith}
use Rattle.std.proofs.lemmas.Bool.{or_left}
use Rattle.std.proofs.lemmas.List.{at_drop_more}
use Rattle.spec_meaning.specs.Stream.{all_followed}
use Rattle.xt_tree.specs.StreamView.{single_of}
use Rattle.xt_streams.specs.Parts.{has_attribute}
use Rattle.xt_streams.proofs.Streams.{attribute_followed}
use Rattle.xt_streams.proofs.fragment.+has_attribute.Goals as goal

pub has_attribute-returns-then-is_attribute : goal.has_attribute-returns-then-is_attribute
has_attribute-returns-then-is_attribute t c =
    let list = c.list-item-items.result.now in
    let item = c.item-item.result in
    let rest = all_followed (map single_of (drop (c.loop-item.item-index + 1) list)) in
    let at = at_drop_more (λ xs. has_attribute (all_followed (map single_of xs))) list c.loop-item.item-index item (omega arith) in
    let here = rw (← c.item-item.is) at at in
    let all = sym c.loop-item.invariant ∙ here ∙ attribute_followed (single_of item) rest in
    sym (or_left (has_attribute (single_of item)) (has_attribute rest) (sym c.is_attribute.ensures ∙ c.if-is_attribute.true)) ∙ sym all

pub has_attribute-loop-item-preserved : goal.has_attribute-loop-item-preserved
has_attribute-loop-item-preserved t c =
    let list = c.list-item-items.result.now in
    let item = c.item-item.result in
    let rest = all_followed (map single_of (drop (c.loop-item.item-index + 1) list)) in
    let at = at_drop_more (λ xs. has_attribute (all_followed (map single_of xs))) list c.loop-item.item-index item (omega arith) in
    let here = rw (← c.item-item.is) at at in
    let all = sym c.loop-item.invariant ∙ here ∙ attribute_followed (single_of item) rest in
    sym (all ∙ ap (λ b. b || has_attribute rest) (sym c.is_attribute.ensures ∙ c.if-is_attribute.false))
