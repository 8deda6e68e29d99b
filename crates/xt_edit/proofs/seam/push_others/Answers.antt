use Rattle.std.proofs.Common.{◌+◌, drop, sym, ap, ◌∙◌, arith}
use Rattle.std.proofs.lemmas.List.{at_drop_more, at_drop_all}
use Rattle.spec_document.specs.Forest.{followed}
use Rattle.xt_tree.specs.View.{forest_of}
use Rattle.xt_edit.proofs.Seams.{one-more, followed-none}
use Rattle.xt_edit.proofs.seam.push_others.Goals as goal

pub loop-node-preserved : goal.loop-node-preserved
loop-node-preserved c =
    let old = c.loop-node.joined in
    let rest = drop (c.loop-node.node-index + 1) c.args.nodes.now in
    let at = sym (at_drop_more (λ xs. followed old (forest_of xs)) c.args.nodes.now c.loop-node.node-index c.node-item.result (omega arith))
    ∙ c.loop-node.invariant in
    let here = rw (← c.node-item.is) at at in
    ap (λ f. followed f (forest_of rest)) c.in_ok-push_shared.ensures ∙ one-more old c.node-item.result rest ∙ here

pub returns : goal.returns
returns c =
    sym (followed-none c.loop-node.joined)
    ∙ sym (at_drop_all (λ xs. followed c.loop-node.joined (forest_of xs)) c.args.nodes.now c.loop-node.node-index (omega arith)) ∙ c.loop-node.invariant
