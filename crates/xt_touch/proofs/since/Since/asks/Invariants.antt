use Rattle.std.proofs.Common.{◌≡◌, drop, map}
use Rattle.spec_touch.specs.Marks.{any_asks}
use Rattle.xt_questions.specs.View.{question_of}
use Rattle.xt_touch.specs.View.{marked_by}
use Rattle.xt_touch.proofs.since.Since.asks.Given as goal

abbrev pub invariant-loop-marks : goal.invariant-loop-marks
invariant-loop-marks l =
    any_asks (map (λ marks. marked_by marks.value) (drop l.marks-index l.self.changes.items)) (question_of l.question)
    ≡ any_asks (map (λ marks. marked_by marks.value) l.self.changes.items) (question_of l.question)
