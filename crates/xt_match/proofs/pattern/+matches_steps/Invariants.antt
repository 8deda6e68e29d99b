use Rattle.std.proofs.Common.{◌≡◌, ◌+◌, ◌*◌, Bool, drop, length, map, reverse}
use Rattle.spec_meaning.specs.Question.{Answer}
use Rattle.spec_meaning.specs.Program.{Program}
use Rattle.spec_meaning.specs.Supplies.{at_hand}
use Rattle.spec_transform.specs.Match.{holds_of_one, when_called, matches_steps}
use Rattle.spec_node.specs.Naming.{same_ref}
use Rattle.xt_syntax.specs.PartView.{pattern_step_of}
use Rattle.spec_node.specs.declared.node_ref.NodeRef.{NodeRef}
use Rattle.xt_questions.specs.declared.context.Focus.{Focus}
use Rattle.xt_questions.specs.View.{context_of, supplies_of}
use Rattle.xt_questions.specs.Runs.{Continues}
use Rattle.xt_match.proofs.pattern.+matches_steps.Given as goal

abbrev pub decreases-matches_steps : goal.decreases-matches_steps
decreases-matches_steps g l = 3 * length l.steps.now

abbrev pub decreases-one_matches : goal.decreases-one_matches
decreases-one_matches g l = 3 * length l.steps.now + 1

abbrev pub decreases-matches_above : goal.decreases-matches_above
decreases-matches_above g l = 3 * length l.steps.now + 2

abbrev pub invariant-one_matches-loop-node : goal.invariant-one_matches-loop-node
invariant-one_matches-loop-node g l =
    let state = g.W.World.state in
    let test : Focus → NodeRef → Answer NodeRef → Program NodeRef Bool = λ f. matches_steps same_ref (context_of f l.context) l.start (reverse (map pattern_step_of l.steps)) in
    record {
      same : (f : Focus) →
          Continues (at_hand (supplies_of l.supplies) l.context.depth) l.context.depth
          (holds_of_one (when_called (test f)) (drop l.node-index l.nodes)) (state l.world)
          (holds_of_one (when_called (test f)) l.nodes) (state l.fn.world);
      name : g.W.World.name l.world ≡ g.W.World.name l.fn.world;
    }
