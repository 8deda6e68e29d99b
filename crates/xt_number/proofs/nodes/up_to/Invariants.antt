use Rattle.std.proofs.Common.{◌≡◌, drop, []}
use Rattle.spec_meaning.specs.Supplies.{at_hand}
use Rattle.spec_transform.specs.Numbering.{matches_there, up_to}
use Rattle.spec_node.specs.Naming.{same_ref}
use Rattle.xt_syntax.specs.PartView.{pattern_of}
use Rattle.xt_questions.specs.declared.context.Focus.{Focus}
use Rattle.xt_questions.specs.View.{context_of, supplies_of}
use Rattle.xt_questions.specs.Runs.{Continues}
use Rattle.xt_number.proofs.nodes.up_to.Given as goal

abbrev pub invariant-loop-node : goal.invariant-loop-node
invariant-loop-node g l =
    let state = g.W.World.state in
    record {
      same : (f : Focus) →
          Continues (at_hand (supplies_of l.supplies) l.context.depth) l.context.depth
          (up_to (matches_there same_ref (context_of f l.context) (pattern_of l.from)) l.nearer.items (drop l.node-index l.nodes)) (state l.world)
          (up_to (matches_there same_ref (context_of f l.context) (pattern_of l.from)) [] l.nodes) (state l.fn.world);
      name : g.W.World.name l.world ≡ g.W.World.name l.fn.world;
    }
