use Rattle.spec_run.proofs.Coming.{one_outcome_lem}
use Rattle.spec_run.proofs.outcomes.one_outcome.Goals as goal

pub returns : goal.returns
returns c = one_outcome_lem c.one_sheet.ensures
