use Rattle.std.proofs.Common.{◌+◌, map, drop, sym, ap, ◌∙◌, arith}
use Rattle.std.proofs.lemmas.List.{at_drop_more, at_drop_all}
use Rattle.spec_meaning.specs.Stream.{followed}
use Rattle.xt_tree.specs.StreamView.{stream_of}
use Rattle.xt_tree.specs.View.{written_of}
use Rattle.xt_tree.proofs.Streams.{followed-Ended, followed-followed}
use Rattle.xt_copy.specs.Copied.{copied_attribute, copied_attributes}
use Rattle.xt_copy.proofs.below.own_attributes.Goals as goal

pub loop-attribute-init : goal.loop-attribute-init
loop-attribute-init c =
    ap (λ s. followed s (copied_attributes c.args.scope.now (map written_of c.args.attributes.now))) c.new-items.ensures

pub loop-attribute-preserved : goal.loop-attribute-preserved
loop-attribute-preserved c =
    let scope = c.args.scope.now in
    let old = stream_of c.loop-attribute.items in
    let at = sym (at_drop_more (λ rest. followed old (copied_attributes scope (map written_of rest))) c.args.attributes.now c.loop-attribute.attribute-index
    c.attribute-item.result (omega arith)) ∙ c.loop-attribute.invariant in
    let here = rw (← c.attribute-item.is) at at in
    let rest = copied_attributes scope (map written_of (drop (c.loop-attribute.attribute-index + 1) c.args.attributes.now)) in
    ap (λ s. followed s rest) c.in_ok-push_attribute.ensures
    ∙ followed-followed old (copied_attribute scope (written_of c.attribute-item.result)) rest ∙ here

pub returns : goal.returns
returns c =
    let scope = c.args.scope.now in
    let done = stream_of c.loop-attribute.items in
    sym (followed-Ended done)
    ∙ (sym (at_drop_all (λ rest. followed done (copied_attributes scope (map written_of rest))) c.args.attributes.now c.loop-attribute.attribute-index
    (omega arith)) ∙ c.loop-attribute.invariant)
