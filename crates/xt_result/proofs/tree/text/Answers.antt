use Rattle.std.proofs.Common.{◌∙◌, ◌++◌, ap, sym}
use Rattle.spec_document.specs.Forest.{texts_in}
use Rattle.spec_meaning.specs.Stream.{texts_of}
use Rattle.xt_tree.specs.StreamView.{stream_of}
use Rattle.spec_result.proofs.Texts.{shaped_texts}
use Rattle.xt_result.proofs.tree.text.Goals as goal

pub returns : goal.returns
returns c =
    c.in_ok-push_texts.ensures ∙ ap (λ t. t ++ texts_of (stream_of c.deref.result.now)) c.new-text.ensures
    ∙ ap (λ i. texts_of (stream_of i)) c.deref.ensures ∙ sym (shaped_texts (stream_of c.tree.inside.items.value)) ∙ ap texts_in c.tree.view_is
