use Rattle.spec_reuse.proofs.Steps.{run_begins, run_passes, run_enters, run_refers}
use Rattle.spec_reuse.proofs.Fronts.{own_grows}
use Rattle.spec_reuse.proofs.counts.a_run_is_gone_along.Goals as goal

pub returns-clause-begins : goal.returns-clause-begins
returns-clause-begins c = run_begins

pub returns-clause-passes : goal.returns-clause-passes
returns-clause-passes c = run_passes

pub returns-clause-call : goal.returns-clause-call
returns-clause-call c = run_enters

pub returns-clause-reference : goal.returns-clause-reference
returns-clause-reference c = run_refers

pub returns-clause-notes : goal.returns-clause-notes
returns-clause-notes c = own_grows
