use Rattle.std.proofs.Common.{◌∙◌, ap}
use Rattle.spec_run.specs.Going.{Asked, noted}
use Rattle.xt_tree.proofs.Joined.{if_ok_weaker}
use Rattle.xt_questions.specs.View.{question_of}
use Rattle.xt_progress.specs.View.{going_of}
use Rattle.xt_progress.proofs.going.Going.ask.Goals as goal

pub returns-clause-answer : goal.returns-clause-answer
returns-clause-answer g c = if_ok_weaker c.copy-copied.result (λ a e. e ∙ c.in-Ok.ensures.answer) c.copy-copied.ensures

pub returns-clause-noted : goal.returns-clause-noted
returns-clause-noted g c =
    let same = c.in-Ok-note.ensures ∙ ap (λ a. noted (Asked (question_of c.args.question) a) (going_of c.args.self.now)) c.in-Ok.ensures.answer in
    if_ok_weaker c.copy-copied.result (λ a e. same) c.copy-copied.ensures
