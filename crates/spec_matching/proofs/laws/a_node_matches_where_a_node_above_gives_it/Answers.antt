use Rattle.spec_matching.proofs.Above.{given_where_matched, matched_where_given}
use Rattle.spec_matching.proofs.laws.a_node_matches_where_a_node_above_gives_it.Goals as goal

pub returns-clause-given : goal.returns-clause-given
returns-clause-given c = given_where_matched

pub returns-clause-matched : goal.returns-clause-matched
returns-clause-matched c = matched_where_given
