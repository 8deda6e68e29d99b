use Rattle.std.proofs.Common.{length}
use Rattle.xt_held.specs.View.{IsCurrent}
use Rattle.xt_session.specs.State.{state_of}
use Rattle.xt_session.specs.Counting.{IsSmall}
use Rattle.xt_session.proofs.Counting.{HasCounted}
use Rattle.xt_session.proofs.demo.answer_by.Given as goal

abbrev pub invariant-loop-command : goal.invariant-loop-command
invariant-loop-command l = HasCounted l.fn.size l.commands (state_of l.held) l.counts × IsCurrent l.held × IsSmall l.counts

abbrev pub decreases-loop-command : goal.decreases-loop-command
decreases-loop-command l = length l.commands
