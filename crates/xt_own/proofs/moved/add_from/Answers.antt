use Rattle.std.proofs.Common.{◌∙◌}
use Rattle.xt_own.proofs.moved.add_from.Goals as goal

pub loop-turn-preserved : goal.loop-turn-preserved
loop-turn-preserved c = record {
  same = c.in_ok-add_of_events.ensures.same ∙ c.loop-turn.invariant.same;
  decided = λ parameters document is are.
      c.in_ok-add_of_events.ensures.decided parameters document (c.loop-turn.invariant.same ∙ is)
      (c.loop-turn.invariant.decided parameters document is are);
}
