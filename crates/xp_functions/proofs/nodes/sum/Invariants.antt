use Rattle.std.proofs.Common.{◌≡◌, ℕ, pos, drop}
use Rattle.spec_expression.specs.Number.{Whole}
use Rattle.spec_meaning.specs.Program.{Supply}
use Rattle.spec_meaning.specs.Call.{summed}
use Rattle.spec_node.specs.declared.node_ref.NodeRef.{NodeRef}
use Rattle.xt_questions.specs.Runs.{Continues}
use Rattle.xp_functions.proofs.nodes.sum.Given as goal

abbrev pub invariant-loop-node : goal.invariant-loop-node
invariant-loop-node g l =
    let state = g.W.World.state in
    record {
      same : (supply : Supply NodeRef) (depth : ℕ) → Continues supply depth (summed l.total (drop l.node-index l.nodes)) (state l.world) (summed (Whole (pos 0)) l.nodes) (state l.fn.world);
      name : g.W.World.name l.world ≡ g.W.World.name l.fn.world;
    }
