use Rattle.std.proofs.Common.{◌∙◌}
use Rattle.xt_own.proofs.moved.add_of_events.Goals as goal

pub loop-event-preserved : goal.loop-event-preserved
loop-event-preserved c = record {
  same = c.in_ok-add_of_event.ensures.same ∙ c.loop-event.invariant.same;
  decided = λ parameters document is are.
      c.in_ok-add_of_event.ensures.decided parameters document (c.loop-event.invariant.same ∙ is)
      (c.loop-event.invariant.decided parameters document is are);
}

pub returns-in_err-add_of_event-clause-same : goal.returns-in_err-add_of_event-clause-same
returns-in_err-add_of_event-clause-same c = c.add_of_event.ensures.same ∙ c.loop-event.invariant.same
