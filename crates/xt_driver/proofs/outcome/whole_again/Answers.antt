use Rattle.std.proofs.Common.{sym, ap, ◌∙◌}
use Rattle.spec_result.specs.Recovery.{messages_of}
use Rattle.xt_tree.specs.StreamView.{stream_of}
use Rattle.xt_tree.specs.declared.items.Items.{Items}
use Rattle.xt_record.specs.declared.tree.Summary.{Summary}
use Rattle.xt_driver.proofs.outcome.whole_again.Goals as goal

pub on_heap-requires : goal.on_heap-requires
on_heap-requires c = λ so.
    let same = c.in_ok-content.ensures.cases ∙ ap (λ (s : Summary). s.content.value) c.deref.ensures in
    ap (λ (x : Items). messages_of (stream_of x)) same ∙ c.args.said.whole.value.silent (rw (sym c.deref-4.ensures) so)
