use Rattle.std.proofs.Common.{◌≡◌, ℕ, drop, []}
use Rattle.spec_meaning.specs.Program.{Supply}
use Rattle.spec_transform.specs.Key.{texts_of}
use Rattle.spec_node.specs.declared.node_ref.NodeRef.{NodeRef}
use Rattle.xt_questions.specs.Runs.{Continues}
use Rattle.xt_keys.proofs.values.texts_of.Given as goal

abbrev pub invariant-loop-node : goal.invariant-loop-node
invariant-loop-node g l =
    let state = g.W.World.state in
    record {
      same : (supply : Supply NodeRef) (depth : ℕ) →
          Continues supply depth (texts_of l.texts.items (drop l.node-index l.nodes)) (state l.world) (texts_of [] l.nodes) (state l.fn.world);
      name : g.W.World.name l.world ≡ g.W.World.name l.fn.world;
    }
