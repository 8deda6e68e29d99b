use Rattle.std.proofs.Common.{sym}
use Rattle.spec_transform.specs.Choice.{context_for}
use Rattle.spec_node.specs.Naming.{same_ref}
use Rattle.xt_match.specs.Context.{units_in}
use Rattle.xt_match.specs.Tabled.{called_of}
use Rattle.xt_syntax.specs.SheetView.{rules_of}
use Rattle.xt_questions.specs.View.{candidates_of}
use Rattle.xt_match.proofs.Skipping.{table_so}
use Rattle.xt_match.proofs.Together.{runs_as}
use Rattle.xt_match.proofs.choice.first_in_table.Goals as goal

pub returns-in-Some-clause-runs : goal.returns-in-Some-clause-runs
returns-in-Some-clause-runs g c =
    let called = c.requires.called in
    let found = c.args.table.now.fitting (called_of c.args.key) c.in-Some.numbers.now (sym c.in-Some.ensures.value) in
    let program = table_so same_ref (context_for (units_in c.args.units.now) c.args.node) (called_of c.args.key) (candidates_of c.args.candidates) (rules_of c.args.table.now.rules.now).rules c.args.node
    called.written c.requires.mode called.same found in
    runs_as program (rw (c.as_slice-rules.ensures.value, c.as_slice.ensures.value) at c.first_among.ensures.runs)
