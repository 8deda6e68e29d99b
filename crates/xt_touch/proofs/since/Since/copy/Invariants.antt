use Rattle.std.proofs.Common.{◌≡◌, ◌++◌, drop, map}
use Rattle.xt_touch.specs.View.{marked_by}
use Rattle.xt_touch.proofs.since.Since.copy.Given as goal

abbrev pub invariant-loop-marks : goal.invariant-loop-marks
invariant-loop-marks l =
    map (λ marks. marked_by marks.value) l.changes.items ++ map (λ marks. marked_by marks.value) (drop l.marks-index l.self.changes.items)
    ≡ map (λ marks. marked_by marks.value) l.self.changes.items
