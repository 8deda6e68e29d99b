-- The texts of streams after streams.
use Rattle.std.proofs.Common.{◌≡◌, ◌∙◌, refl, sym, ap, ◌++◌, append_assoc}
use Rattle.spec_meaning.specs.Stream.{Stream, Ended, Element, Nameless, Attribute, Namespace, Text, Comment, Instruction, Message, Hole, followed, texts_of}

pub texts_of-followed : (s t : Stream) → texts_of (followed s t) ≡ texts_of s ++ texts_of t
texts_of-followed Ended t = refl
texts_of-followed (Element name uri namespaces content rest) t =
    ap (λ more. texts_of content ++ more) (texts_of-followed rest t) ∙ sym (append_assoc (texts_of content) (texts_of rest) (texts_of t))
texts_of-followed (Nameless content rest) t =
    ap (λ more. texts_of content ++ more) (texts_of-followed rest t) ∙ sym (append_assoc (texts_of content) (texts_of rest) (texts_of t))
texts_of-followed (Attribute name uri content rest) t = texts_of-followed rest t
texts_of-followed (Namespace prefix uri rest) t = texts_of-followed rest t
texts_of-followed (Text text rest) t =
    ap (λ more. text ++ more) (texts_of-followed rest t) ∙ sym (append_assoc text (texts_of rest) (texts_of t))
texts_of-followed (Comment content rest) t = texts_of-followed rest t
texts_of-followed (Instruction target content rest) t = texts_of-followed rest t
texts_of-followed (Message content rest) t = texts_of-followed rest t
texts_of-followed (Hole rest) t = texts_of-followed rest t
