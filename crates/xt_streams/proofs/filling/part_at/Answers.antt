use Rattle.std.proofs.Common.{◌∙◌, sym, ap, arith}
use Rattle.std.proofs.lemmas.List.{at_drop_more, drop-map}
use Rattle.spec_meaning.specs.Stream.{first_of}
use Rattle.xt_tree.specs.StreamView.{stream_of, streams_of}
use Rattle.xt_streams.proofs.filling.part_at.Goals as goal

pub returns-in_ok-clone : goal.returns-in_ok-clone
returns-in_ok-clone c =
    let parts = c.args.parts.now in
    let at = at_drop_more (λ ps. first_of (streams_of ps)) parts c.args.index c.index-parts-index.result (omega arith) in
    let here = rw (← c.index-parts-index.is) at at in
    ap stream_of c.in_ok-clone.ensures.cases ∙ sym here ∙ ap first_of (sym (drop-map (λ p. stream_of p.value) c.args.index parts))
