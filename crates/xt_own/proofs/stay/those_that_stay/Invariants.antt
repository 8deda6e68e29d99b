use Rattle.spec_run.specs.Documents.{Parameters}
use Rattle.xt_touch.specs.View.{since_of}
use Rattle.xt_world.specs.View.{truth_in}
use Rattle.xt_spared.specs.View.{Agrees, Ask}
use Rattle.xt_own.specs.Keys.{AllKeys, AreAfter}
use Rattle.xt_own.proofs.stay.those_that_stay.Given as goal

abbrev pub invariant-loop-key : goal.invariant-loop-key
invariant-loop-key l =
    (was : Ask) (parameters : Parameters) → AllKeys l.stylesheet was l.keys → Agrees was (truth_in l.stylesheet parameters l.document) (since_of l.since)
    → AreAfter l.stylesheet was parameters l.document l.after
