use Rattle.spec_reuse.proofs.Within.{reference_past, reference_under_way, reference_to_none, reference_evaluated, reference_left}
use Rattle.spec_reuse.proofs.counts.an_evaluation_is_entered_for_a_reference.Goals as goal

pub returns-clause-past : goal.returns-clause-past
returns-clause-past c = reference_past

pub returns-clause-under_way : goal.returns-clause-under_way
returns-clause-under_way c = reference_under_way

pub returns-clause-not_there : goal.returns-clause-not_there
returns-clause-not_there c = reference_to_none

pub returns-clause-evaluated : goal.returns-clause-evaluated
returns-clause-evaluated c = reference_evaluated

pub returns-clause-left : goal.returns-clause-left
returns-clause-left c = reference_left
