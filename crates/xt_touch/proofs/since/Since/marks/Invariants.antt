use Rattle.std.proofs.Common.{◌≡◌, drop, map}
use Rattle.spec_touch.specs.Marks.{any_marks}
use Rattle.xt_questions.specs.View.{question_of}
use Rattle.xt_touch.specs.View.{marked_by}
use Rattle.xt_touch.proofs.since.Since.marks.Given as goal

abbrev pub invariant-loop-marks : goal.invariant-loop-marks
invariant-loop-marks l =
    any_marks (map (λ marks. marked_by marks.value) (drop l.marks-index l.self.changes.items)) (question_of l.question)
    ≡ any_marks (map (λ marks. marked_by marks.value) l.self.changes.items) (question_of l.question)
