use Rattle.std.proofs.Common.{refl, ◌∙◌}
use Rattle.xt_session.proofs.Serving.{serving_at_start, serving_on, serves_stopped, serves_cut, serves_prefix}
use Rattle.xt_session.proofs.session.serve.Goals as goal

pub loop-status-init : goal.loop-status-init
loop-status-init g c = (
  serving_at_start c.args.limit (g.I.Source.remaining c.args.input.now) (g.O.Sink.written c.args.output.now) _ _ c.in-Ok.ensures
      (λ i. record { documents = c.new-held.ensures.present i; made = c.new-held.ensures.made i; pending = c.new-held.ensures.pending i })
      c.new-held.ensures.past,
  refl,
  refl,
  c.new-held.ensures.current,
)

pub loop-status-preserved : goal.loop-status-preserved
loop-status-preserved g c =
    let turned = c.in-Answered.ensures in (
      serving_on c.loop-status.invariant.0 turned.turns.1 turned.turns.2,
      turned.input_cause ∙ c.loop-status.invariant.1,
      turned.output_cause ∙ c.loop-status.invariant.2,
      turned.current,
    )

pub returns-in-Stopped-clause-session : goal.returns-in-Stopped-clause-session
returns-in-Stopped-clause-session g c =
    let turns = c.in-Stopped.ensures.turns in
    serves_stopped c.loop-status.invariant.0 turns.0 turns.1

pub returns-in-ReadFailed-clause-session : goal.returns-in-ReadFailed-clause-session
returns-in-ReadFailed-clause-session g c =
    let turns = c.in-ReadFailed.ensures.turns in
    serves_cut c.loop-status.invariant.0 turns.0 turns.1

pub returns-in-WriteFailed-clause-session : goal.returns-in-WriteFailed-clause-session
returns-in-WriteFailed-clause-session g c =
    let turns = c.in-WriteFailed.ensures.turns in
    serves_prefix turns.2.0 c.loop-status.invariant.0 turns.1 turns.2.1
