use Rattle.std.proofs.Common.{ℕ, List, refl, ◌∙◌, arith, map}
use Rattle.spec_transform.specs.Choice.{context_for}
use Rattle.spec_node.specs.Naming.{same_ref}
use Rattle.xt_match.specs.Context.{units_in}
use Rattle.xt_match.specs.Fitting.{first_among}
use Rattle.xt_syntax.specs.SheetView.{rule_of}
use Rattle.xt_questions.specs.View.{answer_of, candidates_of}
use Rattle.xt_questions.proofs.Steps.{runs_then, runs_stop, runs_gives, runs_from, goes_on, next_turn, exits}
use Rattle.xt_match.proofs.choice.first_among.Goals as goal

pub returns-in_err-is_chosen-clause-runs : goal.returns-in_err-is_chosen-clause-runs
returns-in_err-is_chosen-clause-runs g c =
    let left = λ (numbers : List ℕ). first_among same_ref (context_for (units_in c.args.units.now) c.args.node) c.args.mode.now (candidates_of c.args.candidates) (map rule_of c.args.rules.now) numbers c.args.node (answer_of c.args.called.now) in
    let turn = next_turn left c.args.numbers.now c.loop-number.number-index _ (omega arith) c.loop-number.invariant.same in
    exits _ c.from_residual.ensures.1 (runs_from turn (runs_stop _ c.in_err-is_chosen.ensures.runs))

pub returns-then-is_chosen-clause-runs : goal.returns-then-is_chosen-clause-runs
returns-then-is_chosen-clause-runs g c =
    let left = λ (numbers : List ℕ). first_among same_ref (context_for (units_in c.args.units.now) c.args.node) c.args.mode.now (candidates_of c.args.candidates) (map rule_of c.args.rules.now) numbers c.args.node (answer_of c.args.called.now) in
    let turn = next_turn left c.args.numbers.now c.loop-number.number-index _ (omega arith) c.loop-number.invariant.same in
    runs_from turn (runs_then _ c.in_ok-is_chosen.ensures.runs (rw c.if-is_chosen.true (runs_gives refl)))

pub loop-number-preserved : goal.loop-number-preserved
loop-number-preserved g c =
    record {
      same =
          let left = λ (numbers : List ℕ). first_among same_ref (context_for (units_in c.args.units.now) c.args.node) c.args.mode.now (candidates_of c.args.candidates) (map rule_of c.args.rules.now) numbers c.args.node (answer_of c.args.called.now) in
          let turn = next_turn left c.args.numbers.now c.loop-number.number-index _ (omega arith) c.loop-number.invariant.same in
          let on = goes_on _ turn c.in_ok-is_chosen.ensures.runs in
          rw c.if-is_chosen.false at on;
      name = c.is_one_chosen.ensures.name ∙ c.loop-number.invariant.name;
    }
