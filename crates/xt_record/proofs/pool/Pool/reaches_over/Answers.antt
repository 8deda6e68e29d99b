use Rattle.std.proofs.Common.{◌≡◌, ◌-◌, ◌∙◌, [], true, refl, sym, ap, subst, arith}
use Rattle.spec_reuse.specs.Serving.{IsOf}
use Rattle.xt_tree.specs.StreamView.{stream_of}
use Rattle.spec_result.specs.Recovery.{messages_of}
use Rattle.xt_tree.specs.declared.items.Items.{Items}
use Rattle.xt_engine.specs.View.{call_of}
use Rattle.xt_touch.specs.Named.{AreCovered}
use Rattle.xt_record.specs.View.{kept_in}
use Rattle.xt_record.specs.Grown.{values_of}
use Rattle.xt_record.specs.declared.record.Record.{Record}
use Rattle.xt_record.specs.declared.tree.Summary.{Summary}
use Rattle.xt_record.proofs.Grown.{values_at}
use Rattle.xt_record.proofs.Reaching.{reached_entered}
use Rattle.xt_record.proofs.Streams.{silent_pushed}
use Rattle.xt_record.proofs.pool.Pool.reaches_over.Goals as goal

pub returns-clause-reaches : goal.returns-clause-reaches
returns-clause-reaches c = λ trees is es h.
    let vs = values_of c.args.self.now.records.items in
    let turn = c.args.reach.now.end - 1 in
    let tree = trees turn c.tree_at-tree.result.now _ c.tree_at-tree.ensures c.in-Some.is in
    let Of : Record → Type 0 = λ r. IsOf (call_of c.args.call.now) (kept_in r) in
    let Covered : Summary → Type 0 = λ s. AreCovered s.named c.and-reach.result in
    reached_entered vs es _ c.args.depth turn c.tree_at-tree.result.now.size _ _ c.args.reach.now _ _ tree
    (values_at c.args.self.now.records.items turn c.record_at-record.result.now c.record_at-record.ensures)
    (subst Of c.deref-2.ensures (c.in_ok-suits.ensures.0 c.if-not-suits.false)) (omega arith) refl c.in_ok-push.ensures.items
    (ap stream_of c.in_ok-part.ensures.cases ∙ ap (λ (s : Summary). stream_of s.content.value) c.deref-3.ensures)
    c.and-reach.ensures.these (subst Covered c.deref-5.ensures c.and-reach.ensures.those) (omega (arith, c.max-reach.ensures))
    (omega (arith, c.max-reach.ensures, ap (λ (s : Summary). s.levels) c.deref-6.ensures)) h

pub invariant_of-reach-2 : goal.invariant_of-reach-2
invariant_of-reach-2 c =
    let before = c.args.reach.now in
    let w = c.in-Some.whole.value in
    let same = c.in_ok-part.ensures.cases ∙ ap (λ (s : Summary). s.content.value) c.deref-3.ensures in
    let own : (so : c.both-is_silent.result ≡ true) → messages_of (stream_of c.in_ok-part.part.value) ≡ []
    = λ so. ap (λ (x : Items). messages_of (stream_of x)) same ∙ w.silent (ap (λ (s : Summary). s.is_silent) (sym c.deref-4.ensures) ∙ c.both-is_silent.ensures.other so) in
    record {
      silent = λ so. silent_pushed before.parts.items c.push.new.self.items c.in_ok-part.part c.in_ok-push.ensures.items
          (before.silent (c.both-is_silent.ensures.one so)) (own so);
    }
