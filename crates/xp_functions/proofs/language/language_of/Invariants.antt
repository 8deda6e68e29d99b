use Rattle.std.proofs.Common.{◌≡◌, ℕ, drop}
use Rattle.spec_meaning.specs.Program.{Supply}
use Rattle.spec_meaning.specs.Call.{language_of}
use Rattle.spec_node.specs.declared.node_ref.NodeRef.{NodeRef}
use Rattle.xt_questions.specs.Runs.{Continues}
use Rattle.xp_functions.proofs.language.language_of.Given as goal

abbrev pub invariant-loop-element : goal.invariant-loop-element
invariant-loop-element g l =
    let state = g.W.World.state in
    record {
      same : (supply : Supply NodeRef) (depth : ℕ) → Continues supply depth (language_of l.wanted (drop l.element-index l.elements)) (state l.world) (language_of l.wanted l.elements) (state l.fn.world);
      name : g.W.World.name l.world ≡ g.W.World.name l.fn.world;
    }
