use Rattle.xt_build.proofs.Reading.{SoFar}
use Rattle.xt_build.proofs.read.read_events.Given as goal

abbrev pub invariant-loop-i : goal.invariant-loop-i
invariant-loop-i l = SoFar l.found l.events.items l.i l.body
