use Rattle.std.proofs.Common.{◌∙◌, ◌-◌, ◌<◌, ap, length, arith}
use Rattle.spec_meaning.specs.Stream.{holes}
use Rattle.spec_run.specs.Cut.{cut}
use Rattle.xt_tree.specs.StreamView.{stream_of}
use Rattle.xt_driver.proofs.Cutting.{cut_holes}
use Rattle.xt_driver.proofs.outcome.cut_short.Goals as goal

pub fill-requires : goal.fill-requires
fill-requires c =
    let n = length c.args.parts.now in
    let whole = stream_of c.args.ran.now.stream.value in
    let some = c.requires.some in
    let fit = c.requires.fit in
    let same = ap holes (c.in_ok-before.ensures ∙ ap (λ i. cut (n - 1) (stream_of i)) c.deref.ensures) in
    let low : n - 1 < holes whole = omega (arith, some, fit) in
    let all = cut_holes (n - 1) whole low in
    omega (arith, some, same, all)
