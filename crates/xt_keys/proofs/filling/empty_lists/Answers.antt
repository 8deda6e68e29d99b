use Rattle.std.proofs.Common.{◌+◌, ◌++◌, ◌∷◌, [], length, map, sym, ap, ◌∙◌, arith}
use Rattle.std.proofs.lemmas.List.{length_push, map_push, map_more}
use Rattle.spec_node.specs.declared.node_ref.NodeRef.{NodeRef}
use Rattle.spec_node.specs.declared.node_ref.Part.TheVariants as part
use Rattle.xt_questions.specs.Runs.{items}
use Rattle.xt_keys.specs.View.{texts_at}
use Rattle.xt_keys.proofs.filling.empty_lists.Goals as goal

abbrev none : NodeRef
none = record { node = record { number = 0 }; part = part.Itself }

pub loop-node-preserved : goal.loop-node-preserved
loop-node-preserved c =
    let lists = c.loop-node.lists.items in
    record {
      each = ap length c.in_ok-push.ensures.items ∙ length_push lists c.new.result ∙ ap (λ n. n + 1) c.loop-node.invariant.each;
      empty = ap (map items) c.in_ok-push.ensures.items ∙ map_push items lists c.new.result
          ∙ (λ i. c.loop-node.invariant.empty i ++ c.new.ensures.items i ∷ [])
          ∙ sym (map_more (texts_at []) c.args.nodes.now c.loop-node._node-index none (omega arith));
    }
