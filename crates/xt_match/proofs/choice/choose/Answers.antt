use Rattle.std.proofs.Common.{map}
use Rattle.spec_meaning.specs.Question.{Name}
use Rattle.spec_transform.specs.Choice.{context_for, first_that_matches}
use Rattle.spec_node.specs.Naming.{same_ref}
use Rattle.xt_match.specs.Context.{units_in}
use Rattle.xt_syntax.specs.SheetView.{rule_of}
use Rattle.xt_questions.specs.View.{candidates_of}
use Rattle.xt_questions.proofs.Steps.{runs_then, runs_stop, exits}
use Rattle.xt_match.proofs.Together.{runs_as, ask_then}
use Rattle.xt_match.proofs.choice.choose.Goals as goal

pub returns-in_err-called-clause-runs : goal.returns-in_err-called-clause-runs
returns-in_err-called-clause-runs g c =
    let program = ask_then (Name c.args.node) (λ a. a) (first_that_matches same_ref (context_for (units_in c.args.units.now) c.args.node) c.args.mode.now (candidates_of c.args.candidates) 0 (map rule_of c.args.table.now.rules.now.rules.items) c.args.node) in
    exits _ c.from_residual.ensures.1 (runs_as program (runs_stop _ (c.in_err-called.ensures.runs _ _)))

pub returns-clause-runs : goal.returns-clause-runs
returns-clause-runs g c =
    let program = ask_then (Name c.args.node) (λ a. a) (first_that_matches same_ref (context_for (units_in c.args.units.now) c.args.node) c.args.mode.now (candidates_of c.args.candidates) 0 (map rule_of c.args.table.now.rules.now.rules.items) c.args.node) in
    runs_as program (runs_then _ (c.in_ok-called.ensures.runs _ _) (c.first_for-chosen.ensures.runs))
