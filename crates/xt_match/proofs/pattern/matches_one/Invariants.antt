use Rattle.std.proofs.Common.{◌≡◌, drop, map}
use Rattle.spec_meaning.specs.Supplies.{at_hand}
use Rattle.spec_transform.specs.Match.{matches_one}
use Rattle.spec_node.specs.Naming.{same_ref}
use Rattle.xt_syntax.specs.PartView.{alternative_of}
use Rattle.xt_questions.specs.declared.context.Focus.{Focus}
use Rattle.xt_questions.specs.View.{answer_of, context_of, supplies_of}
use Rattle.xt_questions.specs.Runs.{Continues}
use Rattle.xt_match.proofs.pattern.matches_one.Given as goal

abbrev pub invariant-loop-alternative : goal.invariant-loop-alternative
invariant-loop-alternative g l =
    let state = g.W.World.state in
    record {
      same : (f : Focus) →
          Continues (at_hand (supplies_of l.supplies) l.context.depth) l.context.depth
          (matches_one same_ref (context_of f l.context) (map alternative_of (drop l.alternative-index l.alternatives)) l.node (answer_of l.called)) (state l.world)
          (matches_one same_ref (context_of f l.context) (map alternative_of l.alternatives) l.node (answer_of l.called)) (state l.fn.world);
      name : g.W.World.name l.world ≡ g.W.World.name l.fn.world;
    }
