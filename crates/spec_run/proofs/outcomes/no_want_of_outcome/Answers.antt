use Rattle.spec_run.proofs.Coming.{some_outcome}
use Rattle.spec_run.proofs.outcomes.no_want_of_outcome.Goals as goal

pub returns : goal.returns
returns c = some_outcome c.no_want_of_sheet.ensures
