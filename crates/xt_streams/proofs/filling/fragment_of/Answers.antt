use Rattle.std.proofs.Common.{◌≡◌, ◌∙◌, [], rules, sym, ap, arith}
use Rattle.spec_meaning.specs.Stream.{holes, filled}
use Rattle.spec_run.proofs.Streams.{no_holes}
use Rattle.xt_tree.proofs.Streams.{filled-none}
use Rattle.xt_tree.specs.StreamView.{stream_of, streams_of}
use Rattle.xt_streams.proofs.filling.fragment_of.Goals as goal

pub returns-then-branch-eq0 : goal.returns-then-branch-eq0
returns-then-branch-eq0 c =
    let same = ap (λ i. holes (stream_of i)) c.deref.ensures in
    let none : holes (stream_of c.args.items.now.value) ≡ 0 = omega (arith, c.in_ok-count_holes.ensures, same, c.if-branch-eq0.true) in
    c.new.ensures ∙ search rules ∙ sym (filled-none (stream_of c.args.items.now.value) none [])

pub new-requires-2 : goal.new-requires-2
new-requires-2 c =
    let stream = stream_of c.deref-2.result.now in
    let nothing = ap (λ l. filled stream (streams_of l)) (c.as_slice.ensures.value ∙ c.new-none.ensures.items) in
    ap holes (c.in_ok-whole.ensures ∙ nothing) ∙ no_holes stream
