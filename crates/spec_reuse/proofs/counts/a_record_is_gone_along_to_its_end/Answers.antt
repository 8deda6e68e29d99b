use Rattle.spec_reuse.proofs.Steps.{all_holds, call_refused, event_differs, reference_differs, reference_refused}
use Rattle.spec_reuse.proofs.counts.a_record_is_gone_along_to_its_end.Goals as goal

pub returns-clause-whole : goal.returns-clause-whole
returns-clause-whole c = all_holds

pub returns-clause-refused : goal.returns-clause-refused
returns-clause-refused c = call_refused

pub returns-clause-differs : goal.returns-clause-differs
returns-clause-differs c = event_differs

pub returns-clause-another : goal.returns-clause-another
returns-clause-another c = reference_differs

pub returns-clause-lost : goal.returns-clause-lost
returns-clause-lost c = reference_refused
