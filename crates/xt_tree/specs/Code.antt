-- Forests and documents as values that a model may have: each is one to one with a tree of numbers.
use Rattle.std.specs.Prelude.{◌≡◌, ◌⊎◌, ℕ, List}
use mathlib.Core.Path.{refl, sym, ap, subst}
use mathlib.Core.Logic.{inl, inr}
use base.Stored.{Gv, gnil, gcons, gnum, Coded, coded_ℕ, coded_list, coded×, coded⊎}
use Rattle.std.specs.Coded.{code_by}
use Rattle.spec_document.specs.Forest.{Written, Content, Element, Text, Comment, Instruction, Forest, Empty, Node, Document}

abbrev pub text_code : Coded (List ℕ)
text_code = coded_list coded_ℕ

abbrev pub written_code : Coded Written
written_code = code_by (List ℕ × List ℕ) (coded× text_code text_code) (λ a. (a.name, a.value)) (λ p. record { name = p.0; value = p.1 }) (λ _. refl)

abbrev pub Cases : Type 0
Cases = (List ℕ × List Written) ⊎ (List ℕ ⊎ (List ℕ ⊎ (List ℕ × List ℕ)))

abbrev pub cases : Content → Cases
cases (Element name attributes) = inl (name, attributes)
cases (Text text) = inr (inl text)
cases (Comment text) = inr (inr (inl text))
cases (Instruction target text) = inr (inr (inr (target, text)))

abbrev pub content_from : Cases → Content
content_from (inl e) = Element e.0 e.1
content_from (inr (inl text)) = Text text
content_from (inr (inr (inl text))) = Comment text
content_from (inr (inr (inr i))) = Instruction i.0 i.1

pub content_from-cases : (c : Content) → content_from (cases c) ≡ c
content_from-cases (Element name attributes) = refl
content_from-cases (Text text) = refl
content_from-cases (Comment text) = refl
content_from-cases (Instruction target text) = refl

abbrev pub content_code : Coded Content
content_code =
    code_by Cases (coded⊎ (coded× text_code (coded_list written_code)) (coded⊎ text_code (coded⊎ text_code (coded× text_code text_code))))
    cases content_from content_from-cases

abbrev pub label_code : Coded (ℕ × Content)
label_code = coded× coded_ℕ content_code

abbrev pub code_f : Forest ℕ → Gv
code_f Empty = gnil
code_f (Node label content children siblings) = gcons (label_code.code (label, content)) (gcons (code_f children) (code_f siblings))

abbrev pub first_part : Gv → Gv
first_part gnil = gnil
first_part (gnum n) = gnil
first_part (gcons a b) = a

abbrev pub second_part : Gv → Gv
second_part gnil = gnil
second_part (gnum n) = gnil
second_part (gcons a b) = b

abbrev pub IsPair : Gv → Type 0
IsPair gnil = ⊥
IsPair (gnum n) = ⊥
IsPair (gcons a b) = Unit {0}

pub inj_f : (f g : Forest ℕ) → code_f f ≡ code_f g → f ≡ g
inj_f Empty Empty e = refl
inj_f Empty (Node l c f g) e = absurd (subst IsPair (sym e) tt)
inj_f (Node l c f g) Empty e = absurd (subst IsPair e tt)
inj_f (Node l c f g) (Node k d h i) e =
    let own = label_code.inj (l, c) (k, d) (ap first_part e) in
    let below = inj_f f h (ap (λ v. first_part (second_part v)) e) in
    let behind = inj_f g i (ap (λ v. second_part (second_part v)) e) in
    λ t. Node (own t).0 (own t).1 (below t) (behind t)

abbrev pub forest_code : Coded (Forest ℕ)
forest_code = record { code = code_f; inj = inj_f }

abbrev pub document_code : Coded (Document ℕ)
document_code = code_by (ℕ × Forest ℕ) (coded× coded_ℕ forest_code) (λ d. (d.root, d.nodes)) (λ p. record { root = p.0; nodes = p.1 }) (λ _. refl)
