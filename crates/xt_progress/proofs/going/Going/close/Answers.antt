use Rattle.std.proofs.Common.{◌∙◌, sym, ap, []}
use Rattle.spec_meaning.specs.Stream.{followed}
use Rattle.spec_run.specs.Plan.{Wrapping, wrapped, aside_of}
use Rattle.spec_run.specs.Direct.{closed_in}
use Rattle.xt_tree.specs.StreamView.{single_of, stream_of}
use Rattle.xt_progress.specs.View.{stacked}
use Rattle.xt_progress.proofs.Goings.{closed_more}
use Rattle.xt_progress.proofs.going.Going.close.Goals as goal

pub loop-around-preserved : goal.loop-around-preserved
loop-around-preserved c =
    let top = stream_of c.loop-around.self.top in
    let around = c.in-Some.around in
    let rest = c.pop.new.self.items in
    let content = stream_of c.in_ok-content.content.value in
    let inner = c.wrapped.ensures ∙ ap (λ (how : Wrapping). wrapped how content) c.nameless_attribute.ensures ∙ ap (λ i. aside_of (stream_of i)) (c.in_ok-content.ensures.ok ∙ c.replace-inner.ensures.value) in
    let longer = c.in_ok-push.ensures.ok ∙ ap (λ i. followed (stream_of i) (single_of c.wrapped.result)) c.replace-inner.ensures.after ∙ ap (followed (stream_of around)) inner in
    record {
      closed = ap (λ s. closed_in s (stacked rest [])) longer ∙ sym (closed_more rest around top) ∙ ap (λ l. closed_in top (stacked l [])) (sym c.in-Some.ensures.items) ∙ c.loop-around.invariant.closed;
      streams = c.loop-around.invariant.streams;
      events = c.loop-around.invariant.events;
      height = c.loop-around.invariant.height;
    }
