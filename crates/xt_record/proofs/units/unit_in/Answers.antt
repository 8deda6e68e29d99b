use Rattle.std.proofs.Common.{◌∙◌, List, map, sym, subst, arith, add-one}
use Rattle.xt_engine.specs.View.{event_of}
use Rattle.xt_engine.specs.declared.event.Event.{Event}
use Rattle.xt_record.proofs.LastUnit.{AsksNoUnit, asked_by_one, found, found_none, found_some, none_more}
use Rattle.xt_record.proofs.Pieced.{take_all}
use Rattle.xt_record.proofs.units.unit_in.Goals as goal

pub loop-event-preserved : goal.loop-event-preserved
loop-event-preserved c =
    rw add-one (none_more c.args.events.now c.loop-event.event-index c.event-item.result (omega arith) c.event-item.is
    (found_none c.unit_of-unit.result (sym c.is_some.ensures ∙ c.if-is_some.false) c.unit_of-unit.ensures.none) c.loop-event.invariant)

pub returns-then-is_some-clause-asked : goal.returns-then-is_some-clause-asked
returns-then-is_some-clause-asked c =
    found c.unit_of-unit.result (sym c.is_some.ensures ∙ c.if-is_some.true)
    (λ element. asked_by_one element c.args.events.now c.loop-event.event-index c.event-item.result (omega arith) c.event-item.is) c.unit_of-unit.ensures.asked

pub returns-then-is_some-clause-none : goal.returns-then-is_some-clause-none
returns-then-is_some-clause-none c = found_some _ c.unit_of-unit.result (sym c.is_some.ensures ∙ c.if-is_some.true)

pub returns-clause-none : goal.returns-clause-none
returns-clause-none c =
    subst (λ (es : List Event). AsksNoUnit (map event_of es))
    (take_all c.args.events.now c.loop-event.event-index (omega (arith, c.loop-event-test.false))) c.loop-event.invariant
