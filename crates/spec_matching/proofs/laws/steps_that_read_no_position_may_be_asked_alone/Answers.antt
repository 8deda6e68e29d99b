use Rattle.spec_matching.proofs.Alone.{said_among_is_said_alone}
use Rattle.spec_matching.proofs.Answered.{asked_alike, are_answered}
use Rattle.spec_matching.proofs.Above.{asked_alike_in_a_tree}
use Rattle.spec_matching.proofs.laws.steps_that_read_no_position_may_be_asked_alone.Goals as goal

pub returns-clause-said : goal.returns-clause-said
returns-clause-said c = said_among_is_said_alone

pub returns-clause-alike : goal.returns-clause-alike
returns-clause-alike c = asked_alike

pub returns-clause-in_a_tree : goal.returns-clause-in_a_tree
returns-clause-in_a_tree c = asked_alike_in_a_tree

pub returns-clause-answered : goal.returns-clause-answered
returns-clause-answered c = are_answered
