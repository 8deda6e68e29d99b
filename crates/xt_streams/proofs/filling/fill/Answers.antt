use Rattle.std.proofs.Common.{◌≡◌, ◌≤◌, ◌∙◌, ap, subst, IfOk, arith}
use Rattle.spec_meaning.specs.Stream.{Stream, filled, holes}
use Rattle.xt_tree.specs.StreamView.{stream_of, streams_of}
use Rattle.xt_streams.proofs.Streams.{filled_many}
use Rattle.xt_streams.proofs.filling.fill.Goals as goal

pub returns : goal.returns
returns c =
    let stream = stream_of c.args.items.now in
    let parts = streams_of c.args.parts.now in
    let enough : holes stream ≤ c.in_ok-count.count = omega (arith, c.in_ok-count.ensures) in
    let same = ap (λ l. filled stream (streams_of l)) c.as_slice.ensures.value ∙ ap (filled stream) c.in_ok-enough.ensures.parts ∙ filled_many stream c.in_ok-count.count parts enough in
    let Gives : Stream → Type 0 = λ s. IfOk c.fill-2.result (λ whole. stream_of whole.value ≡ s) in
    subst Gives same c.fill-2.ensures
