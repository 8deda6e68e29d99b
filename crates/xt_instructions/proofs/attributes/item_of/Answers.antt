use Rattle.std.proofs.Common.{◌≡◌, ℕ, List, ap, ◌∙◌}
use Rattle.spec_meaning.specs.Stream as stream
use Rattle.spec_meaning.specs.Stream.{Stream, followed, holes}
use Rattle.xt_tree.specs.StreamView.{stream_of}
use Rattle.xt_frames.proofs.Whole.{view-Text}
use Rattle.xt_instructions.proofs.attributes.item_of.Goals as goal

-- what is made of the parts
made_of : (name uri : List ℕ) (content : Stream) (named located : List ℕ) (text : List ℕ) (empty : Stream) → name ≡ named → uri ≡ located → empty ≡ stream.Ended → content ≡ followed empty (stream.Text text stream.Ended)
    → stream.Attribute name uri content stream.Ended ≡ stream.Attribute named located (stream.Text text stream.Ended) stream.Ended
made_of name uri content named located text empty e f n c = λ i. stream.Attribute (e i) (f i) ((c ∙ ap (λ s. followed s (stream.Text text stream.Ended)) n) i) stream.Ended

pub returns-clause-item : goal.returns-clause-item
returns-clause-item c =
    let named = rw (c.aliased_prefix-prefix.ensures, c.for_attribute-aliases.ensures, c.uri-own.ensures, c.local.ensures) at c.in_ok-name.ensures in
    let located = rw (c.aliased_uri.ensures, c.for_attribute-aliases.ensures, c.uri-own.ensures) at c.in_ok-uri.ensures in
    c.attribute_with.ensures
    ∙ made_of _ _ (stream_of c.in_ok-shared.shared.value) _ _ c.args.text (stream_of c.new-content.result) named located c.new-content.ensures (ap stream_of c.in_ok-shared.ensures.ok ∙ rw view-Text at c.in_ok-push.ensures.ok)

pub returns-clause-whole : goal.returns-clause-whole
returns-clause-whole c = ap holes (returns-clause-item c)
