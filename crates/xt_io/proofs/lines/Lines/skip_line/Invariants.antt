use Rattle.std.proofs.Common.{◌≡◌, [], true}
use Rattle.xt_io.proofs.Holding.{PassedBy}
use Rattle.xt_io.proofs.lines.Lines.skip_line.Given as goal

abbrev pub invariant-loop-front : goal.invariant-loop-front
invariant-loop-front g l =
    PassedBy l.fn.self (g.I.Source.remaining l.fn.from) l.front l.self-inside.buffer (g.I.Source.remaining l.from)
    × (l.self-inside.buffer.gathered.items ≡ []) × (g.I.Source.faults l.from ≡ g.I.Source.faults l.fn.from)
    × (l.fn.self.at_end ≡ true → l.from ≡ l.fn.from)

abbrev pub decreases-loop-front : goal.decreases-loop-front
decreases-loop-front g l = l.self-inside.buffer.room
