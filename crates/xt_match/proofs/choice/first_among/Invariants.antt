use Rattle.std.proofs.Common.{◌≡◌, ℕ, List, drop, map}
use Rattle.spec_meaning.specs.Supplies.{at_hand}
use Rattle.spec_transform.specs.Choice.{context_for}
use Rattle.spec_node.specs.Naming.{same_ref}
use Rattle.xt_match.specs.Context.{units_in}
use Rattle.xt_match.specs.Fitting.{first_among}
use Rattle.xt_syntax.specs.SheetView.{rule_of}
use Rattle.xt_questions.specs.View.{answer_of, candidates_of, supplies_of}
use Rattle.xt_questions.specs.Runs.{Continues}
use Rattle.xt_match.proofs.choice.first_among.Given as goal

abbrev pub invariant-loop-number : goal.invariant-loop-number
invariant-loop-number g l =
    let state = g.W.World.state in
    let left = λ (numbers : List ℕ). first_among same_ref (context_for (units_in l.units) l.node) l.mode (candidates_of l.candidates) (map rule_of l.rules) numbers l.node (answer_of l.called) in
    record {
      same : Continues (at_hand (supplies_of l.supplies) 0) 0 (left (drop l.number-index l.numbers)) (state l.world) (left l.numbers) (state l.fn.world);
      name : g.W.World.name l.world ≡ g.W.World.name l.fn.world;
    }
