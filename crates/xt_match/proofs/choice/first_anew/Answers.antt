use Rattle.std.proofs.Common.{refl}
use Rattle.spec_transform.specs.Choice.{context_for}
use Rattle.spec_node.specs.Naming.{same_ref}
use Rattle.xt_match.specs.Context.{units_in}
use Rattle.xt_match.specs.Tabled.{called_of}
use Rattle.xt_syntax.specs.SheetView.{rules_of}
use Rattle.xt_questions.specs.View.{candidates_of}
use Rattle.xt_questions.proofs.Steps.{runs_memory, runs_keeps, exits}
use Rattle.xt_match.proofs.Skipping.{table_so}
use Rattle.xt_match.proofs.Together.{runs_as}
use Rattle.xt_match.proofs.choice.first_anew.Goals as goal

pub keep-requires : goal.keep-requires
keep-requires g c = rw c.as_slice-rules.ensures.value at c.in_ok-numbers.ensures

pub returns-in_err-numbers-clause-runs : goal.returns-in_err-numbers-clause-runs
returns-in_err-numbers-clause-runs g c = exits _ c.from_residual.ensures.1 (runs_memory refl refl)

pub returns-in-Ok-clause-runs : goal.returns-in-Ok-clause-runs
returns-in-Ok-clause-runs g c =
    let called = c.requires.called in
    let program = table_so same_ref (context_for (units_in c.args.units.now) c.args.node) (called_of c.args.key) (candidates_of c.args.candidates) (rules_of c.args.table.now.rules.now).rules c.args.node
    called.written c.requires.mode called.same (rw c.as_slice-rules.ensures.value at c.in_ok-numbers.ensures) in
    runs_as program (rw (c.as_slice-rules.ensures.value, c.as_slice.ensures.value) at c.first_among-chosen.ensures.runs)

pub returns-in-Err-clause-runs : goal.returns-in-Err-clause-runs
returns-in-Err-clause-runs g c = runs_memory refl (runs_keeps c.first_among-chosen.ensures.runs)
