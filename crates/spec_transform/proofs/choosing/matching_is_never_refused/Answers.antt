use Rattle.spec_transform.proofs.Unrefused.{asks, matches_one, first_that_matches, never_refused}
use Rattle.spec_transform.proofs.choosing.matching_is_never_refused.Goals as goal

pub returns-clause-matching : goal.returns-clause-matching
returns-clause-matching c same context pattern n ask supply why = never_refused ask supply why (asks (λ called. matches_one same context pattern.alternatives n called))

pub returns-clause-choice : goal.returns-clause-choice
returns-clause-choice c same context n mode candidates rules ask supply why =
    never_refused ask supply why (asks (λ called. first_that_matches same context mode candidates 0 rules n called))
