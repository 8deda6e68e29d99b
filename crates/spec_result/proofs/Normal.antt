-- The tree that a stream shapes is as one that lines make.
use Rattle.std.proofs.Common.{refl, List, [], ◌∷◌, ◌++◌, ℕ}
use Rattle.spec_document.specs.Scope.{Scope, root_scope}
use Rattle.spec_document.specs.Forest.{IsNormal}
use Rattle.spec_meaning.specs.Stream.{Stream, Ended, Element, Nameless, Attribute, Namespace, Text, Comment, Instruction, Message, Hole}
use Rattle.spec_result.specs.Recovery.{Standing, Nothing, AnElement, AText, AComment, AnInstruction, text_before, standing_before, prefix_of, namespaces_of, attributes_of, all_added}
use Rattle.spec_result.specs.Shape.{opened, prefix_for, tree_of, shaped}

-- in whatever scope
abbrev IsTidy : Standing → Type 0
IsTidy s = (scope : Scope) → IsNormal (tree_of scope s)

text_tidy : (text : List ℕ) (s : Standing) → IsTidy s → IsTidy (text_before text s)
text_tidy [] s tidy = tidy
text_tidy (c ∷ cs) Nothing tidy = λ scope. (refl, λ e. cc, tt, tt)
text_tidy (c ∷ cs) (AnElement prefix local uri namespaces attributes children siblings) tidy = λ scope. (refl, λ e. cc, tt, tidy scope)
text_tidy (c ∷ cs) (AText text siblings) tidy = λ scope. (refl, λ e. cc, (tidy scope).2, (tidy scope).3)
text_tidy (c ∷ cs) (AComment text siblings) tidy = λ scope. (refl, λ e. cc, tt, tidy scope)
text_tidy (c ∷ cs) (AnInstruction target text siblings) tidy = λ scope. (refl, λ e. cc, tt, tidy scope)

tidy : (s : Stream) (behind : Standing) → IsTidy behind → IsTidy (standing_before s behind)
tidy Ended behind t = t
tidy (Element name uri namespaces content rest) behind t = λ scope.
    let own = prefix_for (prefix_of name) uri in
    let inside = (opened scope own uri (namespaces ++ namespaces_of content) (all_added [] (attributes_of content))).scope in
    (tidy content Nothing (λ any. tt) inside, tidy rest behind t scope)
tidy (Nameless content rest) behind t = tidy content (standing_before rest behind) (tidy rest behind t)
tidy (Attribute name uri content rest) behind t = tidy rest behind t
tidy (Namespace prefix uri rest) behind t = tidy rest behind t
tidy (Text text rest) behind t = text_tidy text (standing_before rest behind) (tidy rest behind t)
tidy (Comment content rest) behind t = λ scope. (refl, tidy rest behind t scope)
tidy (Instruction target content rest) behind t = λ scope. (refl, tidy rest behind t scope)
tidy (Message content rest) behind t = tidy rest behind t
tidy (Hole rest) behind t = tidy rest behind t

pub normal : (s : Stream) → IsNormal (shaped s)
normal s = tidy s Nothing (λ any. tt) root_scope
