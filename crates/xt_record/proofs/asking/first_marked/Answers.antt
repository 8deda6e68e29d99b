use Rattle.std.proofs.Common.{◌∙◌, List, map, sym, subst, arith, add-one}
use Rattle.xt_engine.specs.View.{event_of}
use Rattle.xt_engine.specs.declared.event.Event.{Event}
use Rattle.xt_record.specs.Asked.{NoneMarked}
use Rattle.xt_record.proofs.Counting.{one_marked}
use Rattle.xt_record.proofs.LastUnit.{found, found_none, found_some}
use Rattle.xt_record.proofs.Pieced.{take_all}
use Rattle.xt_record.proofs.Quiet.{none_more}
use Rattle.xt_touch.specs.View.{since_of}
use Rattle.xt_record.proofs.asking.first_marked.Goals as goal

pub loop-event-preserved : goal.loop-event-preserved
loop-event-preserved c =
    rw add-one (none_more (since_of c.args.spared.now.since.now) c.args.events.now c.loop-event.event-index c.event-item.result (omega arith) c.event-item.is
    (found_none c.marked_by-question.result (sym c.is_some.ensures ∙ c.if-is_some.false) c.marked_by-question.ensures.none) c.loop-event.invariant)

pub returns-then-is_some-clause-marked : goal.returns-then-is_some-clause-marked
returns-then-is_some-clause-marked c =
    found c.marked_by-question.result (sym c.is_some.ensures ∙ c.if-is_some.true)
    (λ question. one_marked (since_of c.args.spared.now.since.now) c.args.events.now c.loop-event.event-index c.event-item.result (omega arith) c.event-item.is)
    c.marked_by-question.ensures.marked

pub returns-then-is_some-clause-none : goal.returns-then-is_some-clause-none
returns-then-is_some-clause-none c = found_some _ c.marked_by-question.result (sym c.is_some.ensures ∙ c.if-is_some.true)

pub returns-clause-none : goal.returns-clause-none
returns-clause-none c =
    subst (λ (es : List Event). NoneMarked (since_of c.args.spared.now.since.now) (map event_of es))
    (take_all c.args.events.now c.loop-event.event-index (omega (arith, c.loop-event-test.false))) c.loop-event.invariant
