use Rattle.std.proofs.Common.{◌∙◌, ap, arith}
use Rattle.spec_meaning.specs.Stream.{holes}
use Rattle.xt_tree.specs.StreamView.{stream_of}
use Rattle.xt_streams.proofs.Streams.{nodes_holes}
use Rattle.xt_streams.proofs.fragment.without_attributes.Goals as goal

pub new-requires : goal.new-requires
new-requires c =
    let stream = stream_of c.items.result.now.value in
    let none = ap holes c.items.ensures.stream ∙ c.items.ensures.whole in
    let less = nodes_holes stream in
    let same = ap holes c.in_ok-items.ensures in
    omega (arith, none, less, same)
