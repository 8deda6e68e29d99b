use Rattle.spec_matching.proofs.Needless.{need_nothing}
use Rattle.spec_matching.proofs.Grammar.{parsed_along}
use Rattle.spec_matching.proofs.laws.patterns_without_variables_need_nothing.Goals as goal

pub returns-clause-steps : goal.returns-clause-steps
returns-clause-steps c = parsed_along

pub returns-clause-needs : goal.returns-clause-needs
returns-clause-needs c = need_nothing
