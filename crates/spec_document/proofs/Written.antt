-- The events that are written for a forest are that forest.
use Rattle.std.proofs.Common.{◌≡◌, ◌≢◌, ℕ, List, [], ◌∷◌, refl, sym, subst}
use Rattle.spec_document.specs.declared.event.Event.{Event}
use Rattle.spec_document.specs.Forest.{Content, Element, Text, Comment, Instruction, Forest, Empty, Node, Plain, plain, with_text, IsForestOf, is_empty}
use Rattle.spec_document.specs.Forest.{is_element, is_text, is_comment, is_instruction, IsNoText, IsNormal, written}

text_alone : {L : Type 0} (text : List ℕ) (f : Forest L) → text ≢ [] → IsNoText f
    → Node tt (Text text) Empty (plain f) ≡ with_text text (plain f)
text_alone [] f some apart = absurd (some refl)
text_alone (c ∷ cs) Empty some apart = refl
text_alone (c ∷ cs) (Node l (Text t) children siblings) some apart = absurd apart
text_alone (c ∷ cs) (Node l (Element n a) children siblings) some apart = refl
text_alone (c ∷ cs) (Node l (Comment t) children siblings) some apart = refl
text_alone (c ∷ cs) (Node l (Instruction n t) children siblings) some apart = refl

-- what has nothing below it
with_nothing_below : {L : Type 0} (events : List (Event (List ℕ))) (content : Content) (children : Forest L) (siblings : Plain)
    → children ≡ Empty → IsForestOf events (Node tt content Empty siblings) → IsForestOf events (Node tt content (plain children) siblings)
with_nothing_below events content children siblings e d = subst (λ c. IsForestOf events (Node tt content (plain c) siblings)) (sym e) d

pub written_forest : {L : Type 0} (f : Forest L) → IsNormal f → IsForestOf (written f) (plain f)
written_forest Empty n = is_empty
written_forest (Node l (Element name attributes) children siblings) n =
    is_element name attributes refl (written_forest children n.0) (written_forest siblings n.1)
written_forest (Node l (Text text) children siblings) n =
    with_nothing_below _ (Text text) children (plain siblings) n.0 (is_text text (written_forest siblings n.3) (text_alone text siblings n.1 n.2))
written_forest (Node l (Comment text) children siblings) n =
    with_nothing_below _ (Comment text) children (plain siblings) n.0 (is_comment text (written_forest siblings n.1))
written_forest (Node l (Instruction target text) children siblings) n =
    with_nothing_below _ (Instruction target text) children (plain siblings) n.0 (is_instruction target text (written_forest siblings n.1))

pub plain_itself : (f : Plain) → plain f ≡ f
plain_itself Empty = refl
plain_itself (Node label content children siblings) = λ i. Node tt content (plain_itself children i) (plain_itself siblings i)
