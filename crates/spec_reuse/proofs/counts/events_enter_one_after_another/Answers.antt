use Rattle.spec_reuse.proofs.Counting.{nested_append, nested_referred, nested_entered, nested_but_append, nested_but_referred, nested_but_entered, nested_some, nested_but_none}
use Rattle.spec_reuse.proofs.counts.events_enter_one_after_another.Goals as goal

pub returns-clause-both : goal.returns-clause-both
returns-clause-both c = nested_append

pub returns-clause-referred : goal.returns-clause-referred
returns-clause-referred c = nested_referred

pub returns-clause-entered : goal.returns-clause-entered
returns-clause-entered c = nested_entered

pub returns-clause-both_but : goal.returns-clause-both_but
returns-clause-both_but c = nested_but_append

pub returns-clause-referred_but : goal.returns-clause-referred_but
returns-clause-referred_but c = nested_but_referred

pub returns-clause-entered_but : goal.returns-clause-entered_but
returns-clause-entered_but c = nested_but_entered

pub returns-clause-some : goal.returns-clause-some
returns-clause-some c = nested_some

pub returns-clause-none : goal.returns-clause-none
returns-clause-none c = nested_but_none
