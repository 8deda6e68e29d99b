use Rattle.std.proofs.Common.{ap, ◌∙◌}
use Rattle.spec_run.specs.Content.{unless_given}
use Rattle.xt_questions.specs.View.{answer_of}
use Rattle.xt_runner.proofs.Starts.{text_passed, no_text}
use Rattle.xt_runner.proofs.start.text_given.Goals as goal

pub returns-in-Passed : goal.returns-in-Passed
returns-in-Passed c own = ap (λ a. unless_given (answer_of a) own) c.in-Passed.is ∙ text_passed c.in-Passed.text own

pub returns-in_default : goal.returns-in_default
returns-in_default c own = no_text c.args.answer own c.in_default.not-Passed
