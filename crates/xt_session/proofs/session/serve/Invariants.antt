use Rattle.std.proofs.Common.{◌≡◌}
use Rattle.spec_lines.specs.Lines.{allowance}
use Rattle.xt_held.specs.View.{IsCurrent}
use Rattle.xt_session.proofs.Serving.{IsServing}
use Rattle.xt_session.proofs.session.serve.Given as goal

abbrev pub invariant-loop-status : goal.invariant-loop-status
invariant-loop-status g l =
    IsServing l.fn.limit (g.I.Source.remaining l.fn.input) l.lines (g.I.Source.remaining l.input) l.held (g.O.Sink.written l.fn.output)
    (g.O.Sink.written l.output)
    × (g.I.Source.faults l.input ≡ g.I.Source.faults l.fn.input) × (g.O.Sink.faults l.output ≡ g.O.Sink.faults l.fn.output)
    × IsCurrent l.held

abbrev pub decreases-loop-status : goal.decreases-loop-status
decreases-loop-status g l = allowance l.lines
