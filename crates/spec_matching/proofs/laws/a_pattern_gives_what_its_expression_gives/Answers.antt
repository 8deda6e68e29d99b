use Rattle.spec_matching.proofs.Expression.{expression_gives, matched_by_expression}
use Rattle.spec_matching.proofs.laws.a_pattern_gives_what_its_expression_gives.Goals as goal

pub returns-clause-gives : goal.returns-clause-gives
returns-clause-gives c = expression_gives

pub returns-clause-matched : goal.returns-clause-matched
returns-clause-matched c = matched_by_expression
