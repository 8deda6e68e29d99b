use Rattle.spec_reuse.proofs.Steps.{sets_out, event_holds, call_goes_on, reference_holds}
use Rattle.spec_reuse.proofs.counts.a_record_is_gone_along.Goals as goal

pub returns-clause-begins : goal.returns-clause-begins
returns-clause-begins c = sets_out

pub returns-clause-event : goal.returns-clause-event
returns-clause-event c = event_holds

pub returns-clause-call : goal.returns-clause-call
returns-clause-call c = call_goes_on

pub returns-clause-reference : goal.returns-clause-reference
returns-clause-reference c = reference_holds
