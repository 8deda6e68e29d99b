use Rattle.std.proofs.Common.{◌≡◌, [], true}
use Rattle.xt_io.specs.LineBuffer.{reader_of}
use Rattle.xt_io.proofs.Reading.{Passed}
use Rattle.xt_io.proofs.lines.Lines.next_line.Given as goal

abbrev pub invariant-loop-line : goal.invariant-loop-line
invariant-loop-line g l =
    Passed l.fn.self (g.I.Source.remaining l.fn.from) [] (reader_of l.self-inside.buffer) (g.I.Source.remaining l.from)
    × (g.I.Source.faults l.from ≡ g.I.Source.faults l.fn.from) × (l.fn.self.at_end ≡ true → l.from ≡ l.fn.from)

abbrev pub decreases-loop-line : goal.decreases-loop-line
decreases-loop-line g l = l.self-inside.buffer.room
