use Rattle.std.proofs.Common.{◌≡◌, ℕ, [], map, drop}
use Rattle.spec_meaning.specs.Program.{Supply}
use Rattle.spec_meaning.specs.Compare.{searched}
use Rattle.spec_node.specs.declared.node_ref.NodeRef.{NodeRef}
use Rattle.xt_questions.specs.Runs.{Continues}
use Rattle.xp_values.specs.OperandView.{operand_of}
use Rattle.xp_values.proofs.comparison.searched.Given as goal

-- what is left to do here is all that there was to do
abbrev pub invariant-loop-right : goal.invariant-loop-right
invariant-loop-right g l =
    let state = g.W.World.state in
    let left = searched g.C.Comparand.read (g.C.Comparand.test l.operator l.first) in
    record {
      runs : (supply : Supply NodeRef) → (depth : ℕ) → Continues supply depth (left l.keys.items (map operand_of (drop l.right-index l.rights))) (state l.world)
          (left [] (map operand_of l.rights)) (state l.fn.world);
      name : g.W.World.name l.world ≡ g.W.World.name l.fn.world;
    }
