use Rattle.std.proofs.Common.{◌∙◌}
use Rattle.xt_own.proofs.gathering.gather_events.Goals as goal

pub loop-event-preserved : goal.loop-event-preserved
loop-event-preserved c = record {
  same = c.in_ok-gather_event.ensures.same ∙ c.loop-event.invariant.same;
  decided = λ parameters document is carries are.
      c.in_ok-gather_event.ensures.decided parameters document (c.loop-event.invariant.same ∙ is) carries
      (c.loop-event.invariant.decided parameters document is carries are);
}

pub returns-in_err-gather_event-clause-same : goal.returns-in_err-gather_event-clause-same
returns-in_err-gather_event-clause-same c = c.gather_event.ensures.same ∙ c.loop-event.invariant.same
