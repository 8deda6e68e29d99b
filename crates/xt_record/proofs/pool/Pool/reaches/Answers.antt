use Rattle.std.proofs.Common.{refl, sym, ap, subst}
use Rattle.spec_run.specs.Going.{Entered}
use Rattle.xt_engine.specs.View.{call_of, event_of}
use Rattle.xt_engine.specs.declared.call.Call.{Call}
use Rattle.xt_engine.specs.declared.event.Event.{Event}
use Rattle.xt_record.specs.Grown.{values_of}
use Rattle.xt_record.specs.Reached.{Reaches}
use Rattle.xt_record.proofs.Ok.{if_ok}
use Rattle.xt_record.proofs.Reaching.{reaches_asked}
use Rattle.xt_record.proofs.pool.Pool.reaches.Goals as goal

pub returns-in-Asked-clause-reaches : goal.returns-in-Asked-clause-reaches
returns-in-Asked-clause-reaches c = λ trees is.
    reaches_asked (values_of c.args.self.now.records.items) (event_of c.args.event.now) _ _ c.args.reach.now _ (ap event_of c.in-Asked.is) refl refl refl
    c.with-reach.ensures.question c.with-reach.ensures.before

pub returns-in-Entered-clause-reaches : goal.returns-in-Entered-clause-reaches
returns-in-Entered-clause-reaches c = if_ok c.reaches_over.result c.reaches_over.ensures.reaches (λ b h trees is.
    let Of : Event → Type 0 = λ e. Reaches (values_of c.args.self.now.records.items) (event_of e) c.args.reach.now c.reaches_over.new.reach in
    let At : Call → Type 0 = λ k. Reaches (values_of c.args.self.now.records.items) (Entered (call_of k) c.in-Entered.depth) c.args.reach.now
    c.reaches_over.new.reach in
    subst Of (sym c.in-Entered.is) (subst At c.deref.ensures (h trees is)))
