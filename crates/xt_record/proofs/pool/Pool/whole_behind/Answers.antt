use Rattle.std.proofs.Common.{rules, ◌≡◌, ℕ, ◌-◌, ◌+◌, ◌∷◌, [], ◌∙◌, drop, length, map, List, sym, ap, subst, arith}
use Rattle.std.proofs.lemmas.List.{drop_all, drop_more}
use Rattle.spec_node.specs.Naming.{same_ref}
use Rattle.xt_engine.specs.View.{event_of}
use Rattle.xt_engine.specs.declared.event.Event.{Event}
use Rattle.xt_record.specs.View.{kept_in}
use Rattle.xt_record.specs.Grown.{values_of}
use Rattle.xt_record.specs.Reached.{entered_in, IsReached}
use Rattle.xt_record.proofs.Grown.{values_count}
use Rattle.xt_record.proofs.Holes.{entered_first, true_holes}
use Rattle.xt_record.proofs.Reaching.{reached_none, reached_whole}
use Rattle.xt_record.proofs.Saying.{lasts}
use Rattle.xt_record.proofs.pool.Pool.whole_behind.Goals as goal

pub loop-index-init : goal.loop-index-init
loop-index-init c =
    let events = c.as_slice-events.result.now in
    let none : drop (length events) events ≡ [] = drop_all (length events) events (omega arith) in
    let vs = values_of c.args.self.now.records.items in
    let empty : c.new.result.items ≡ [] = search rules in
    record {
      count = omega arith;
      reached = λ trees.
          reached_none vs (map event_of (drop (length events) events)) _ (ap (λ (es : List Event). map event_of es) none)
          (c.count.ensures.records ∙ sym (values_count c.args.self.now.records.items)) empty;
      parts = ap (λ xs. length xs) empty ∙ sym (ap (λ (es : List Event). entered_in (map event_of es)) none);
      levels = omega arith;
    }

pub loop-index-preserved : goal.loop-index-preserved
loop-index-preserved c =
    let inv = c.loop-index.invariant in
    let events = c.as_slice-events.result.now in
    let vs = values_of c.args.self.now.records.items in
    let index = c.loop-index.index in
    let i = index - 1 in
    let e = c.index-events-index.result in
    let next : i + 1 ≡ index = omega arith in
    let here : drop i events ≡ e ∷ drop index events =
    drop_more events i e (omega (arith, inv.count)) ∙ ap (λ (x : Event). x ∷ drop (i + 1) events) (sym c.index-events-index.is)
    ∙ ap (λ n. e ∷ drop n events) next in
    record {
      count = omega (arith, inv.count);
      reached = λ trees.
          let P : List Event → Type 0 = λ es. IsReached vs (map event_of es) c.reaches.new.reach in
          subst P (sym here) (c.in_ok-goes.ensures.reaches trees c.if-not-goes.false (map event_of (drop index events)) (inv.reached trees));
      parts = c.in_ok-goes.ensures.counts c.if-not-goes.false ∙ ap (λ n. entered_in (event_of e ∷ []) + n) inv.parts
          ∙ sym (entered_first (event_of e) (map event_of (drop index events)))
          ∙ sym (ap (λ (es : List Event). entered_in (map event_of es)) here);
      levels = omega (arith, inv.levels, c.reaches.ensures.levels);
    }

pub whole_of-requires : goal.whole_of-requires
whole_of-requires c =
    let inv = c.loop-index.invariant in
    let events = c.as_slice-events.result.now in
    let kept = c.args.kept.now in
    let none : c.loop-index.index ≡ 0 = omega arith in
    true_holes same_ref (kept_in kept) (lasts kept)
    ∙ sym (inv.parts ∙ ap (λ n. entered_in (map event_of (drop n events))) none
    ∙ ap (λ (es : List Event). entered_in (map event_of es)) c.as_slice-events.ensures.value)

pub returns : goal.returns
returns c = λ trees.
    let inv = c.loop-index.invariant in
    let rs = c.args.self.now.records.items in
    let vs = values_of rs in
    let events = c.as_slice-events.result.now in
    let kept = c.args.kept.now in
    let reach = c.loop-index.reach in
    let none : c.loop-index.index ≡ 0 = omega arith in
    let P : ℕ → Type 0 = λ n. IsReached vs (map event_of (drop n events)) reach in
    let Q : List Event → Type 0 = λ es. IsReached vs (map event_of es) reach in
    let reached = subst Q c.as_slice-events.ensures.value (subst P none (inv.reached trees)) in
    let made = c.in_ok-whole.ensures in
    reached_whole vs kept c.args.mark (length rs) c.in_ok-whole.whole.value reach (omega arith) (sym (values_count rs)) made.content made.named made.levels
    inv.levels (lasts kept) reached
