use Rattle.std.proofs.Common.{◌∷◌, [], ◌∙◌, subst, sym, arith, add-one}
use Rattle.spec_meaning.specs.Question.{Question, Answer}
use Rattle.spec_node.specs.declared.node_ref.NodeRef.{NodeRef}
use Rattle.xt_engine.specs.View.{event_of}
use Rattle.xt_record.specs.View.{AsksHold}
use Rattle.xt_record.specs.Sure.{AsksSpared}
use Rattle.xt_record.proofs.Answered.{answered_at, answered_more, spared_at}
use Rattle.xt_record.proofs.Counting.{asks_next, asks_up_to}
use Rattle.xt_touch.specs.View.{since_of}
use Rattle.xt_record.proofs.asking.asks_hold.Goals as goal

pub asks_so-requires : goal.asks_so-requires
asks_so-requires g c =
    let truth = (g.W.World.state c.args.world.now).truth in
    let spared = c.args.spared.now in
    let event = c.event-item.result in
    let Spared : (Question NodeRef → Answer NodeRef) → Type 0 = λ t. AsksSpared t spared (event_of event ∷ []) in
    record {
      spared = subst Spared (sym c.loop-event.invariant.truth)
          (spared_at truth spared c.args.events.now c.loop-event.event-index event (omega arith) c.event-item.is c.requires.spared);
    }

pub loop-event-preserved : goal.loop-event-preserved
loop-event-preserved g c =
    let truth = (g.W.World.state c.args.world.now).truth in
    let changes = since_of c.args.spared.now.since.now in
    let es = c.args.events.now in
    let i = c.loop-event.event-index in
    let event = c.event-item.result in
    let Holds : (Question NodeRef → Answer NodeRef) → Type 0 = λ t. AsksHold t (event_of event ∷ []) in
    let now = subst Holds c.loop-event.invariant.truth (c.in_ok-asks_so.ensures.holds.0 c.if-not-branch.false) in
    record {
      holds = rw add-one (answered_more truth es i event (omega arith) c.event-item.is now c.loop-event.invariant.holds);
      steps = rw add-one (asks_next changes es i event (omega arith) c.event-item.is c.loop-event.invariant.steps c.in_ok-asks_so.ensures.steps);
      truth = c.asks_so.ensures.truth ∙ c.loop-event.invariant.truth;
      name = c.asks_so.ensures.name ∙ c.loop-event.invariant.name;
    }

pub returns-in_err-asks_so-clause-steps : goal.returns-in_err-asks_so-clause-steps
returns-in_err-asks_so-clause-steps g c =
    asks_up_to (since_of c.args.spared.now.since.now) c.args.events.now c.loop-event.event-index c.event-item.result (omega arith) c.event-item.is
    c.loop-event.invariant.steps c.asks_so.ensures.steps

pub returns-then-not-branch-clause-steps : goal.returns-then-not-branch-clause-steps
returns-then-not-branch-clause-steps g c =
    asks_up_to (since_of c.args.spared.now.since.now) c.args.events.now c.loop-event.event-index c.event-item.result (omega arith) c.event-item.is
    c.loop-event.invariant.steps c.asks_so.ensures.steps

pub returns-then-not-branch-clause-holds : goal.returns-then-not-branch-clause-holds
returns-then-not-branch-clause-holds g c = (
  λ is. absurd (cc),
  λ all.
      let truth = (g.W.World.state c.args.world.now).truth in
      let event = c.event-item.result in
      let Holds : (Question NodeRef → Answer NodeRef) → Type 0 = λ t. AsksHold t (event_of event ∷ []) in
      let here = answered_at truth c.args.events.now c.loop-event.event-index event (omega arith) c.event-item.is all in
      sym c.if-not-branch.true ∙ c.in_ok-asks_so.ensures.holds.1 (subst Holds (sym c.loop-event.invariant.truth) here),
)
