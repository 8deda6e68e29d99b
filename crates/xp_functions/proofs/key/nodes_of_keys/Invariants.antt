use Rattle.std.proofs.Common.{◌≡◌, ℕ, [], drop}
use Rattle.spec_meaning.specs.Program.{Supply}
use Rattle.spec_meaning.specs.Call.{nodes_of_keys}
use Rattle.spec_node.specs.declared.node_ref.NodeRef.{NodeRef}
use Rattle.xt_questions.specs.Runs.{Continues}
use Rattle.xp_functions.proofs.key.nodes_of_keys.Given as goal

abbrev pub invariant-loop-node : goal.invariant-loop-node
invariant-loop-node g l =
    let state = g.W.World.state in
    record {
      same : (supply : Supply NodeRef) (depth : ℕ) → Continues supply depth (nodes_of_keys l.name l.found.items (drop l.node-index l.nodes)) (state l.world) (nodes_of_keys l.name [] l.nodes) (state l.fn.world);
      name : g.W.World.name l.world ≡ g.W.World.name l.fn.world;
    }
