use Rattle.std.proofs.Common.{take, sym, arith}
use Rattle.std.proofs.lemmas.List.Elements.{All-more, All-same}
use Rattle.std.proofs.lemmas.List.{take_all}
use Rattle.spec_meaning.specs.Question.{Order}
use Rattle.xt_touch.specs.Named.{CoversNode}
use Rattle.xt_touch.proofs.named.Named.with_nodes.Goals as goal

pub loop-node-preserved : goal.loop-node-preserved
loop-node-preserved c =
    let step = c.with_node-named.ensures in
    let nodes = c.args.nodes.now in
    let i = c.loop-node.node-index in
    record {
      nodes = All-more (CoversNode c.with_node-named.result) nodes i _ (omega arith)
          (step.before (Order (take i nodes)) c.loop-node.invariant.nodes) step.node;
      before = λ question h. step.before question (c.loop-node.invariant.before question h);
    }

pub returns-clause-nodes : goal.returns-clause-nodes
returns-clause-nodes c =
    All-same (CoversNode c.loop-node.named) c.args.nodes.now (take c.loop-node.node-index c.args.nodes.now)
    (sym (take_all _ _ c.loop-node-test.false)) c.loop-node.invariant.nodes
