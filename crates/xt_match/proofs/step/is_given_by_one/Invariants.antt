use Rattle.std.proofs.Common.{◌≡◌, drop}
use Rattle.spec_meaning.specs.Supplies.{at_hand}
use Rattle.spec_transform.specs.Match.{holds_of_one, is_given_below}
use Rattle.spec_node.specs.Naming.{same_ref}
use Rattle.xt_syntax.specs.View.{step_of}
use Rattle.xt_questions.specs.declared.context.Focus.{Focus}
use Rattle.xt_questions.specs.View.{context_of, supplies_of}
use Rattle.xt_questions.specs.Runs.{Continues}
use Rattle.xt_match.proofs.step.is_given_by_one.Given as goal

abbrev pub invariant-loop-parent : goal.invariant-loop-parent
invariant-loop-parent g l =
    let state = g.W.World.state in
    record {
      same : (f : Focus) →
          Continues (at_hand (supplies_of l.supplies) l.context.depth) l.context.depth
          (holds_of_one (is_given_below same_ref (context_of f l.context) (step_of l.step) l.node) (drop l.parent-index l.parents)) (state l.world)
          (holds_of_one (is_given_below same_ref (context_of f l.context) (step_of l.step) l.node) l.parents) (state l.fn.world);
      name : g.W.World.name l.world ≡ g.W.World.name l.fn.world;
    }
