use Rattle.std.proofs.Common.{◌≡◌, []}
use Rattle.spec_lines.specs.Lines.{allowance}
use Rattle.spec_session.specs.Command.{session_with}
use Rattle.xt_session.proofs.Taking.{GoesOn}
use Rattle.xt_session.proofs.take.take_body.Given as goal

abbrev pub invariant-loop-next : goal.invariant-loop-next
invariant-loop-next g l =
    GoesOn (session_with l.fn.line []) l.fn.lines (g.I.Source.remaining l.fn.input) (session_with l.line l.body.items) l.lines (g.I.Source.remaining l.input)
    × (g.I.Source.faults l.input ≡ g.I.Source.faults l.fn.input)

abbrev pub decreases-loop-next : goal.decreases-loop-next
decreases-loop-next g l = allowance l.lines
