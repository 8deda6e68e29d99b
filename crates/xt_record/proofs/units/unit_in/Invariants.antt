use Rattle.std.proofs.Common.{map, take}
use Rattle.xt_engine.specs.View.{event_of}
use Rattle.xt_record.proofs.LastUnit.{AsksNoUnit}
use Rattle.xt_record.proofs.units.unit_in.Given as goal

abbrev pub invariant-loop-event : goal.invariant-loop-event
invariant-loop-event l = AsksNoUnit (map event_of (take l.event-index l.events))
