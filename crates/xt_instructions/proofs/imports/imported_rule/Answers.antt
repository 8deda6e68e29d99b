use Rattle.std.proofs.Common.{◌∙◌, ap}
use Rattle.spec_meaning.specs.Question.{rule_in}
use Rattle.xt_instructions.proofs.imports.imported_rule.Goals as goal

pub returns-clause-rule : goal.returns-clause-rule
returns-clause-rule g c = rw c.in_ok-mode.ensures at (c.into_rule.ensures ∙ ap rule_in c.in_ok-answer.ensures.answer)

pub returns-clause-going : goal.returns-clause-going
returns-clause-going g c = rw c.in_ok-mode.ensures at c.in_ok-answer.ensures.noted
