use Rattle.std.proofs.Common.{◌≡◌}
use Rattle.spec_lines.specs.Lines.{allowance}
use Rattle.xt_session.proofs.Commands.{Skips}
use Rattle.xt_session.proofs.take.skip_body.Given as goal

abbrev pub invariant-loop-next : goal.invariant-loop-next
invariant-loop-next g l =
    Skips l.fn.lines (g.I.Source.remaining l.fn.input) l.lines (g.I.Source.remaining l.input) × (g.I.Source.faults l.input ≡ g.I.Source.faults l.fn.input)

abbrev pub decreases-loop-next : goal.decreases-loop-next
decreases-loop-next g l = allowance l.lines
