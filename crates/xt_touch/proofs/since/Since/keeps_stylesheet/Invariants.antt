use Rattle.std.proofs.Common.{◌≡◌, drop, map}
use Rattle.xt_touch.specs.View.{keep_sheet, marked_by}
use Rattle.xt_touch.proofs.since.Since.keeps_stylesheet.Given as goal

abbrev pub invariant-loop-marks : goal.invariant-loop-marks
invariant-loop-marks l =
    keep_sheet (map (λ marks. marked_by marks.value) (drop l.marks-index l.self.changes.items)) ≡ keep_sheet (map (λ marks. marked_by marks.value) l.self.changes.items)
