use Rattle.std.proofs.Common.{◌≡◌, drop, map}
use Rattle.xt_touch.specs.View.{marked_by, some_move}
use Rattle.xt_touch.proofs.since.Since.moves.Given as goal

abbrev pub invariant-loop-marks : goal.invariant-loop-marks
invariant-loop-marks l =
    some_move (map (λ marks. marked_by marks.value) (drop l.marks-index l.self.changes.items)) ≡ some_move (map (λ marks. marked_by marks.value) l.self.changes.items)
