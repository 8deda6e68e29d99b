use Rattle.std.proofs.Common.{◌≡◌, ℕ, map, []}
use Rattle.spec_meaning.specs.Program.{Supply}
use Rattle.spec_meaning.specs.Call.{all_texts}
use Rattle.xt_tree.specs.ValueView.{value_of}
use Rattle.spec_node.specs.declared.node_ref.NodeRef.{NodeRef}
use Rattle.xt_questions.specs.Runs.{Continues}
use Rattle.xp_functions.proofs.argument.all_texts.Given as goal

abbrev pub invariant-loop-value : goal.invariant-loop-value
invariant-loop-value g l =
    let state = g.W.World.state in
    record {
      same : (supply : Supply NodeRef) (depth : ℕ) → Continues supply depth (all_texts l.texts.items (map value_of l.value-iterator.rest.items)) (state l.world) (all_texts [] (map value_of l.fn.arguments.items)) (state l.fn.world);
      name : g.W.World.name l.world ≡ g.W.World.name l.fn.world;
    }
