use Rattle.std.proofs.Common.{◌≡◌, drop}
use Rattle.xt_spared.specs.View.{all_stay, questions_of}
use Rattle.xt_touch.specs.View.{since_of}
use Rattle.xt_spared.proofs.spared.Spared.all_stay.Given as goal

abbrev pub invariant-loop-question : goal.invariant-loop-question
invariant-loop-question l =
    all_stay (since_of l.self.since.now) l.self.keys.items (questions_of (drop l.question-index l.questions))
    ≡ all_stay (since_of l.self.since.now) l.self.keys.items (questions_of l.questions)
