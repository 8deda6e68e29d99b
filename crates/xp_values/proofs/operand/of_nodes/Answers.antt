use Rattle.std.proofs.Common.{◌+◌, ◌∙◌, ◌++◌, sym, ap, map, drop, arith, append_assoc}
use Rattle.std.proofs.lemmas.List.{at_drop_more, at_drop_all, append-nil, map-append}
use Rattle.spec_meaning.specs.Compare.{OfNode}
use Rattle.xp_values.specs.OperandView.{operand_of}
use Rattle.xp_values.proofs.operand.of_nodes.Goals as goal

pub loop-node-preserved : goal.loop-node-preserved
loop-node-preserved c =
    let made = map operand_of c.loop-node.list.items in
    let rest = map OfNode (drop (c.loop-node.node-index + 1) c.args.nodes.now) in
    ap (λ list. map operand_of list ++ rest) c.in_ok-push.ensures.items
    ∙ ap (λ list. list ++ rest) (map-append operand_of c.loop-node.list.items _)
    ∙ append_assoc made _ rest
    ∙ sym (at_drop_more (λ ahead. made ++ map OfNode ahead) c.args.nodes.now c.loop-node.node-index _ (omega arith))
    ∙ c.loop-node.invariant

pub returns : goal.returns
returns c =
    let made = map operand_of c.loop-node.list.items in
    sym (append-nil made) ∙ sym (at_drop_all (λ rest. made ++ map OfNode rest) c.args.nodes.now c.loop-node.node-index (omega arith)) ∙ c.loop-node.invariant
