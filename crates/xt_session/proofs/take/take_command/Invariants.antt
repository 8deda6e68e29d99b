use Rattle.std.proofs.Common.{◌≡◌}
use Rattle.spec_lines.specs.Lines.{allowance}
use Rattle.spec_session.specs.Command.{session_of}
use Rattle.xt_session.proofs.Taking.{GoesOn}
use Rattle.xt_session.proofs.take.take_command.Given as goal

abbrev pub invariant-loop-line : goal.invariant-loop-line
invariant-loop-line g l =
    GoesOn session_of l.fn.lines (g.I.Source.remaining l.fn.input) session_of l.lines (g.I.Source.remaining l.input)
    × (g.I.Source.faults l.input ≡ g.I.Source.faults l.fn.input)

abbrev pub decreases-loop-line : goal.decreases-loop-line
decreases-loop-line g l = allowance l.lines
