use Rattle.std.proofs.Common.{◌≡◌, ℕ, map, drop}
use Rattle.spec_meaning.specs.Program.{Supply}
use Rattle.spec_meaning.specs.Compare.{any_left}
use Rattle.spec_node.specs.declared.node_ref.NodeRef.{NodeRef}
use Rattle.xt_questions.specs.Runs.{Continues}
use Rattle.xp_values.specs.OperandView.{operand_of}
use Rattle.xp_values.proofs.comparison.any_left.Given as goal

-- what is left to do here is all that there was to do
abbrev pub invariant-loop-left : goal.invariant-loop-left
invariant-loop-left g l =
    let state = g.W.World.state in
    let left = any_left g.C.Comparand.read (g.C.Comparand.test l.operator) l.keys in
    record {
      runs : (supply : Supply NodeRef) → (depth : ℕ) → Continues supply depth (left (map operand_of (drop l.left-index l.lefts))) (state l.world)
          (left (map operand_of l.lefts)) (state l.fn.world);
      name : g.W.World.name l.world ≡ g.W.World.name l.fn.world;
    }
