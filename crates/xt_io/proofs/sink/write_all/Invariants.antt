use Rattle.std.proofs.Common.{length, ◌-◌, ◌≡◌, ◌≤◌, take}
use Rattle.spec_lines.specs.Outside.{Appends}
use Rattle.xt_io.proofs.sink.write_all.Given as goal

abbrev pub invariant-loop-done : goal.invariant-loop-done
invariant-loop-done g l =
    (l.done ≤ length l.piece) × Appends (g.O.Sink.written l.fn.to) (g.O.Sink.written l.to) (take l.done l.piece)
    × (g.O.Sink.faults l.to ≡ g.O.Sink.faults l.fn.to)

abbrev pub decreases-loop-done : goal.decreases-loop-done
decreases-loop-done g l = length l.piece - l.done
