use Rattle.std.proofs.Common.{◌+◌, ◌++◌, sym, ◌∙◌, arith, map, drop}
use Rattle.std.proofs.lemmas.List.{at_drop_more}
use Rattle.xt_tree.specs.View.{written_of}
use Rattle.xt_keys.specs.Nodes.{attribute_refs, attributes_among}
use Rattle.xt_keys.proofs.nodes.push_attributes.Goals as goal

pub loop-attribute-preserved : goal.loop-attribute-preserved
loop-attribute-preserved c =
    let all = c.args.attributes.now in
    let i = c.loop-attribute.attribute-index in
    let turn = sym (at_drop_more (λ xs. c.loop-attribute.nodes.items ++ attribute_refs c.args.id.number (c.loop-attribute.count + 1) (attributes_among (map written_of xs))) all i
    c.attribute-item.result (omega arith)) ∙ c.loop-attribute.invariant.nodes in
    let bound = c.in_ok-count.ensures.bound in
    record {
      nodes = c.in_ok-count.ensures.nodes (map written_of (drop (i + 1) all)) ∙ rw (← c.attribute-item.is) at turn;
      bound = omega (arith, bound, c.loop-attribute.invariant.bound);
    }
