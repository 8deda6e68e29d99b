use Rattle.std.proofs.Common.{map, take}
use Rattle.xt_engine.specs.View.{event_of}
use Rattle.xt_record.specs.Asked.{NoneMarked}
use Rattle.xt_touch.specs.View.{since_of}
use Rattle.xt_record.proofs.asking.first_marked.Given as goal

-- none before this one is such
abbrev pub invariant-loop-event : goal.invariant-loop-event
invariant-loop-event l = NoneMarked (since_of l.spared.since.now) (map event_of (take l.event-index l.events))
