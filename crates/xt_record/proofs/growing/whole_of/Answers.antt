use Rattle.std.proofs.Common.{◌∙◌, List, reverse, sym, ap}
use Rattle.std.specs.declared.rc.Rc.{Rc}
use Rattle.std.specs.declared.alloc.Global.{Global}
use Rattle.spec_meaning.specs.Stream.{Stream, filled}
use Rattle.spec_result.specs.Recovery.{messages_of}
use Rattle.xt_tree.specs.StreamView.{stream_of, streams_of}
use Rattle.xt_tree.specs.declared.items.Items.{Items}
use Rattle.xt_result.proofs.Silent.{silent_filled, silent_reverse}
use Rattle.xt_record.specs.declared.tree.Summary.{Summary}
use Rattle.xt_record.proofs.Reaching.{streams_reversed}
use Rattle.xt_record.proofs.growing.whole_of.Goals as goal

pub returns-clause-content : goal.returns-clause-content
returns-clause-content c =
    let content = stream_of c.args.kept.now.ran.stream.value in
    ap (λ (s : Summary). stream_of s.content.value) c.in_ok-whole.ensures.ok ∙ c.in_ok-content.ensures
    ∙ ap (λ (xs : List (Rc Items Global)). filled content (streams_of xs)) (c.as_slice.ensures.value ∙ c.reverse.ensures.items)
    ∙ ap (λ (ss : List Stream). filled content ss) (streams_reversed c.args.reach.parts.items)

pub invariant_of-new : goal.invariant_of-new
invariant_of-new c =
    let own = stream_of c.args.kept.now.ran.stream.value in
    let reach = c.args.reach in
    let parts = streams_of reach.parts.items in
    record {
      silent = λ so.
          let none = ap (λ (x : Items). messages_of (stream_of x)) (sym c.deref.ensures) ∙ c.is_silent_with-is_silent.ensures.own so in
          ap (λ (s : Stream). messages_of s) c.in_ok-content.ensures
          ∙ ap (λ (xs : List (Rc Items Global)). messages_of (filled own (streams_of xs))) (c.as_slice.ensures.value ∙ c.reverse.ensures.items)
          ∙ ap (λ (ss : List Stream). messages_of (filled own ss)) (streams_reversed reach.parts.items)
          ∙ silent_filled own (reverse parts) none (silent_reverse parts (reach.silent (c.is_silent_with-is_silent.ensures.parts so)));
    }
