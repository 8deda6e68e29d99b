use Rattle.spec_reuse.proofs.Counting.{call_served, call_counted, record_kept}
use Rattle.spec_reuse.proofs.counts.a_call_is_counted_behind_what_it_enters.Goals as goal

pub returns-clause-served : goal.returns-clause-served
returns-clause-served c = call_served

pub returns-clause-counted : goal.returns-clause-counted
returns-clause-counted c = call_counted

pub returns-clause-kept : goal.returns-clause-kept
returns-clause-kept c = record_kept
