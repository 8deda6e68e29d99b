use Rattle.std.proofs.Common.{List, map, subst}
use Rattle.std.specs.Prelude.{IfNone}
use Rattle.xt_engine.specs.View.{event_of}
use Rattle.xt_engine.specs.declared.event.Event.{Event}
use Rattle.xt_record.specs.declared.record.Record.{Record}
use Rattle.xt_record.proofs.LastUnit.{AsksNoUnit}
use Rattle.xt_record.proofs.units.unit_by.Goals as goal

pub returns-clause-none : goal.returns-clause-none
returns-clause-none c =
    let None : List Event → Type 0 = λ es. IfNone c.unit_in.result (AsksNoUnit (map event_of es)) in
    let NoneIn : Record → Type 0 = λ r. None r.ran.events.items in
    subst NoneIn c.deref.ensures (subst None c.as_slice.ensures.value c.unit_in.ensures.none)
