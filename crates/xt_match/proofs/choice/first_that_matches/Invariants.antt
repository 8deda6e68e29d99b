use Rattle.std.proofs.Common.{◌≡◌, drop, map}
use Rattle.spec_meaning.specs.Supplies.{at_hand}
use Rattle.spec_transform.specs.Choice.{context_for, first_that_matches}
use Rattle.spec_node.specs.Naming.{same_ref}
use Rattle.xt_match.specs.Context.{units_in}
use Rattle.xt_syntax.specs.SheetView.{rule_of}
use Rattle.xt_questions.specs.View.{answer_of, candidates_of, supplies_of}
use Rattle.xt_questions.specs.Runs.{Continues}
use Rattle.xt_match.proofs.choice.first_that_matches.Given as goal

abbrev pub invariant-loop-number : goal.invariant-loop-number
invariant-loop-number g l =
    let state = g.W.World.state in
    record {
      same :
          Continues (at_hand (supplies_of l.supplies) 0) 0
          (first_that_matches same_ref (context_for (units_in l.units) l.node) l.mode (candidates_of l.candidates) l.number (map rule_of (drop l.number l.rules)) l.node (answer_of l.called)) (state l.world)
          (first_that_matches same_ref (context_for (units_in l.units) l.node) l.mode (candidates_of l.candidates) 0 (map rule_of l.rules) l.node (answer_of l.called)) (state l.fn.world);
      name : g.W.World.name l.world ≡ g.W.World.name l.fn.world;
    }
