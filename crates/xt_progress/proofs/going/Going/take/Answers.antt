use Rattle.std.proofs.Common.{◌∙◌, ap}
use Rattle.spec_meaning.specs.Stream.{filled}
use Rattle.spec_run.specs.Direct.{quiet}
use Rattle.spec_run.specs.Going.{Held, noted, wrap}
use Rattle.xt_tree.specs.StreamView.{streams_of}
use Rattle.xt_progress.specs.View.{going_of}
use Rattle.xt_progress.proofs.Goings.{shared_from}
use Rattle.xt_progress.proofs.going.Going.take.Goals as goal

pub returns-clause-taken : goal.returns-clause-taken
returns-clause-taken c =
    let g = going_of c.args.self.now in
    let held = shared_from c.args.self.now.streams.items c.as_slice.result.now c.in_ok-first.first _ _ c.in_ok-held.ensures c.as_slice.ensures.value c.in_ok-first.ensures in
    c.in_ok-value.ensures ∙ ap quiet (c.in_ok-whole.ensures ∙ ap (λ l. filled g.top (streams_of l)) c.as_slice-2.ensures.value ∙ ap (filled g.top) held)

pub returns-clause-aside : goal.returns-clause-aside
returns-clause-aside c =
    let g = going_of c.args.self.now in
    let held = shared_from c.args.self.now.streams.items c.as_slice.result.now c.in_ok-first.first _ _ c.in_ok-held.ensures c.as_slice.ensures.value c.in_ok-first.ensures in
    let same = c.in_ok-note.ensures ∙ (λ i. noted (Held (c.in_ok-first.ensures i) (held i)) g) in
    c.in_ok-end_wrapped.ensures ∙ (λ i. wrap (c.nameless_attribute.ensures i) (same i))
