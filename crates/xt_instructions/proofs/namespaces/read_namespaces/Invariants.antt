use Rattle.std.proofs.Common.{◌≡◌, ℕ, List, [], map, drop}
use Rattle.spec_meaning.specs.Program.{Supply}
use Rattle.spec_run.specs.Plan.{Plan}
use Rattle.spec_run.specs.Passes.{Passes}
use Rattle.spec_run.specs.Content.{namespaces_read}
use Rattle.xt_names.specs.View.{entry_of, Entry}
use Rattle.spec_node.specs.declared.node_ref.NodeRef.{NodeRef}
use Rattle.xt_progress.specs.View.{going_of}
use Rattle.xt_instructions.proofs.namespaces.read_namespaces.Given as goal

-- those before were read
abbrev pub invariant-loop-node : goal.invariant-loop-node
invariant-loop-node g l =
    let truth = (g.W.World.state l.fn.world).truth in
    record {
      passes : (hand : ℕ → Supply NodeRef) (room : ℕ) (k : List Entry → Plan NodeRef) → Passes truth hand room (namespaces_read l.nodes [] k) (going_of l.fn.going) (namespaces_read (drop l.node-index l.nodes) (map entry_of l.list.items) k) (going_of l.going);
      truth : (g.W.World.state l.world).truth ≡ truth;
      name : g.W.World.name l.world ≡ g.W.World.name l.fn.world;
    }
