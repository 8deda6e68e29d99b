use Rattle.spec_reuse.proofs.Within.{entered_there, entered_nowhere}
use Rattle.spec_reuse.proofs.Entering.{entered_at}
use Rattle.spec_reuse.proofs.counts.a_call_is_entered_where_there_is_a_level.Goals as goal

pub returns-clause-there : goal.returns-clause-there
returns-clause-there c = entered_there

pub returns-clause-nowhere : goal.returns-clause-nowhere
returns-clause-nowhere c = entered_nowhere

pub returns-clause-left : goal.returns-clause-left
returns-clause-left c = entered_at
