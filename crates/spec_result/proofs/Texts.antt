-- The texts of the tree that a stream shapes are those of the stream.
use Rattle.std.proofs.Common.{◌≡◌, ◌∙◌, refl, sym, ap, ℕ, List, [], ◌∷◌, ◌++◌, append_assoc, append-nil}
use Rattle.spec_document.specs.Scope.{Scope, root_scope}
use Rattle.spec_document.specs.Forest.{texts_in}
use Rattle.spec_meaning.specs.Stream.{Stream, Ended, Element, Nameless, Attribute, Namespace, Text, Comment, Instruction, Message, Hole, texts_of}
use Rattle.spec_result.specs.Recovery.{Standing, Nothing, AnElement, AText, AComment, AnInstruction, text_before, standing_before, prefix_of, namespaces_of, attributes_of, all_added}
use Rattle.spec_result.specs.Shape.{opened, prefix_for, tree_of, shaped}

texts_before : (text : List ℕ) (scope : Scope) (s : Standing) → texts_in (tree_of scope (text_before text s)) ≡ text ++ texts_in (tree_of scope s)
texts_before [] scope s = refl
texts_before (c ∷ cs) scope Nothing = append-nil ((c ∷ cs) ++ [])
texts_before (c ∷ cs) scope (AnElement prefix local uri namespaces attributes children siblings) =
    ap (λ t. t ++ texts_in (tree_of scope (AnElement prefix local uri namespaces attributes children siblings))) (append-nil (c ∷ cs))
texts_before (c ∷ cs) scope (AText text siblings) =
    ap (λ t. t ++ texts_in (tree_of scope siblings)) (append-nil ((c ∷ cs) ++ text))
    ∙ append_assoc (c ∷ cs) text (texts_in (tree_of scope siblings))
    ∙ ap (λ t. (c ∷ cs) ++ (t ++ texts_in (tree_of scope siblings))) (sym (append-nil text))
texts_before (c ∷ cs) scope (AComment text siblings) = ap (λ t. t ++ texts_in (tree_of scope (AComment text siblings))) (append-nil (c ∷ cs))
texts_before (c ∷ cs) scope (AnInstruction target text siblings) =
    ap (λ t. t ++ texts_in (tree_of scope (AnInstruction target text siblings))) (append-nil (c ∷ cs))

texts_from : (s : Stream) (scope : Scope) (behind : Standing) → texts_in (tree_of scope (standing_before s behind)) ≡ texts_of s ++ texts_in (tree_of scope behind)
texts_from Ended scope behind = refl
texts_from (Element name uri namespaces content rest) scope behind =
    let own = prefix_for (prefix_of name) uri in
    let inside = (opened scope own uri (namespaces ++ namespaces_of content) (all_added [] (attributes_of content))).scope in
    ap (λ t. t ++ texts_in (tree_of scope (standing_before rest behind))) (texts_from content inside Nothing ∙ append-nil (texts_of content))
    ∙ ap (λ t. texts_of content ++ t) (texts_from rest scope behind) ∙ sym (append_assoc (texts_of content) (texts_of rest) (texts_in (tree_of scope behind)))
texts_from (Nameless content rest) scope behind =
    texts_from content scope (standing_before rest behind) ∙ ap (λ t. texts_of content ++ t) (texts_from rest scope behind)
    ∙ sym (append_assoc (texts_of content) (texts_of rest) (texts_in (tree_of scope behind)))
texts_from (Attribute name uri content rest) scope behind = texts_from rest scope behind
texts_from (Namespace prefix uri rest) scope behind = texts_from rest scope behind
texts_from (Text text rest) scope behind =
    texts_before text scope (standing_before rest behind) ∙ ap (λ t. text ++ t) (texts_from rest scope behind)
    ∙ sym (append_assoc text (texts_of rest) (texts_in (tree_of scope behind)))
texts_from (Comment content rest) scope behind = texts_from rest scope behind
texts_from (Instruction target content rest) scope behind = texts_from rest scope behind
texts_from (Message content rest) scope behind = texts_from rest scope behind
texts_from (Hole rest) scope behind = texts_from rest scope behind

pub shaped_texts : (s : Stream) → texts_in (shaped s) ≡ texts_of s
shaped_texts s = texts_from s root_scope Nothing ∙ append-nil (texts_of s)
