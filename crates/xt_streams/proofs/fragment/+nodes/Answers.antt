use Rattle.std.proofs.Common.{◌+◌, ◌∙◌, sym, ap, map, drop, arith}
use Rattle.std.proofs.lemmas.List.{at_drop_more, at_drop_all}
use Rattle.spec_meaning.specs.Stream.{all_followed, followed}
use Rattle.spec_run.specs.Copy.{without_attributes}
use Rattle.xt_tree.specs.StreamView.{single_of, stream_of}
use Rattle.xt_tree.proofs.Streams.{followed-Ended, followed-followed}
use Rattle.xt_streams.specs.Parts.{has_attribute}
use Rattle.xt_streams.proofs.Streams.{view_Attribute, view_Namespace, nodes_followed, nodes_none}
use Rattle.xt_streams.proofs.fragment.+nodes.Goals as goal

pub add_node-returns-in-Attribute : goal.add_node-returns-in-Attribute
add_node-returns-in-Attribute t c =
    sym (followed-Ended (stream_of c.args.list.now)) ∙ ap (λ s. followed (stream_of c.args.list.now) (without_attributes s)) (sym (ap single_of c.in-Attribute.is ∙ view_Attribute _ _ _))

pub add_node-returns-in-Namespace : goal.add_node-returns-in-Namespace
add_node-returns-in-Namespace t c =
    sym (followed-Ended (stream_of c.args.list.now)) ∙ ap (λ s. followed (stream_of c.args.list.now) (without_attributes s)) (sym (ap single_of c.in-Namespace.is ∙ view_Namespace _))

pub nodes-returns-then-not-has_attribute : goal.nodes-returns-then-not-has_attribute
nodes-returns-then-not-has_attribute t c =
    let none = ap (λ i. has_attribute (stream_of i)) (sym c.deref.ensures) ∙ sym c.has_attribute.ensures ∙ c.if-not-has_attribute.true in
    ap stream_of c.in_ok-clone.ensures.cases ∙ sym (nodes_none (stream_of c.args.items.now.value) none)

pub nodes-loop-item-preserved : goal.nodes-loop-item-preserved
nodes-loop-item-preserved t c =
    let list = c.list-item-items.result.now in
    let item = c.item-item.result in
    let rest = all_followed (map single_of (drop (c.loop-item.item-index + 1) list)) in
    let at = at_drop_more (λ xs. without_attributes (all_followed (map single_of xs))) list c.loop-item.item-index item (omega arith) in
    let here = rw (← c.item-item.is) at at in
    ap (λ s. followed s (without_attributes rest)) c.in_ok-add_node.ensures ∙ followed-followed (stream_of c.loop-item.list) (without_attributes (single_of item)) (without_attributes rest)
    ∙ ap (followed (stream_of c.loop-item.list)) (sym (here ∙ nodes_followed (single_of item) rest)) ∙ c.loop-item.invariant

pub nodes-returns : goal.nodes-returns
nodes-returns t c =
    let list = c.list-item-items.result.now in
    let at = at_drop_all (λ xs. without_attributes (all_followed (map single_of xs))) list c.loop-item.item-index (omega arith) in
    ap stream_of c.in_ok-new.ensures.ok ∙ sym (followed-Ended (stream_of c.loop-item.list)) ∙ ap (followed (stream_of c.loop-item.list)) (sym at) ∙ c.loop-item.invariant
