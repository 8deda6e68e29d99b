use Rattle.std.proofs.Common.{sym, ap, ◌∙◌}
use Rattle.spec_meaning.specs.Stream.{Stream}
use Rattle.spec_result.specs.Recovery.{messages_of}
use Rattle.xt_tree.specs.StreamView.{stream_of, streams_of}
use Rattle.xt_tree.specs.declared.items.Items.{Items}
use Rattle.xt_result.proofs.Silent.{silent_filled}
use Rattle.xt_driver.proofs.outcome.done.Goals as goal

pub on_heap-requires : goal.on_heap-requires
on_heap-requires c = λ so.
    let own = ap (λ (x : Items). messages_of (stream_of x)) (sym c.deref.ensures) ∙ c.is_silent_with-is_silent.ensures.own so in
    ap (λ (s : Stream). messages_of s) c.in_ok-content.ensures
    ∙ silent_filled (stream_of c.args.ran.now.stream.value) (streams_of c.args.parts.now) own (c.requires.silent (c.is_silent_with-is_silent.ensures.parts so))
