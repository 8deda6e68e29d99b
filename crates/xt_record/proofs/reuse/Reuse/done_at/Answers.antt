use Rattle.std.proofs.Common.{List, ap, map, subst, sym, arith}
use Rattle.std.proofs.lemmas.Option.{get_or_from_slice_get}
use Rattle.std.specs.declared.rc.Rc.{Rc}
use Rattle.std.specs.declared.alloc.Global.{Global}
use Rattle.xt_engine.specs.View.{event_of}
use Rattle.xt_engine.specs.declared.event.Event.{Event}
use Rattle.xt_record.specs.Sure.{AsksSpared}
use Rattle.xt_record.specs.declared.record.Record.{Record}
use Rattle.xt_record.proofs.Judging.{all_spared_at}
use Rattle.xt_record.proofs.reuse.Reuse.done_at.Goals as goal

pub returns : goal.returns
returns c = λ ask all.
    let spared = c.args.self.now.spared.now in
    let rs = c.args.self.now.last.now.records.items in
    let kept = c.record_at.result.now in
    let Spared : List Event → Type 0 = λ es. AsksSpared ask spared (map event_of es) in
    let InIt : Record → Type 0 = λ r. Spared r.ran.events.items in
    let at = ap (λ (r : Rc Record Global). r.value) (sym (get_or_from_slice_get rs c.args.turn kept kept c.record_at.ensures)) in
    subst Spared (sym c.as_slice.ensures.value)
    (subst InIt (sym c.deref.ensures) (all_spared_at ask spared rs c.args.turn kept (omega (arith, c.if-turn-count.false, c.count.ensures.records)) at all))
