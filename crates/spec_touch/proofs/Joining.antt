-- Siblings that come after one another, where texts that meet are one: in what order they are put together does not matter.
use Rattle.std.proofs.Common.{◌≡◌, ℕ, List, ◌++◌, refl, ap, ◌∙◌}
use Rattle.std.proofs.Common.{append_assoc}
use Rattle.spec_document.specs.Forest.{Content, Element, Text, Comment, Instruction, Forest, Empty, Node}
use Rattle.spec_edit.specs.Splice.{text_before, last_before, met}

text-some : {L : Type 0} (l : L) (t : List ℕ) (k g : Forest L) → text_before l t k g ≡ Empty → ⊥
text-some l t k Empty e = absurd (cc)
text-some l t k (Node j (Element n w) b s) e = absurd (cc)
text-some l t k (Node j (Text u) b s) e = absurd (cc)
text-some l t k (Node j (Comment u) b s) e = absurd (cc)
text-some l t k (Node j (Instruction n u) b s) e = absurd (cc)

last-some : {L : Type 0} (l : L) (c : Content) (k g : Forest L) → last_before l c k g ≡ Empty → ⊥
last-some l (Element n w) k g e = absurd (cc)
last-some l (Text t) k g e = text-some l t k g e
last-some l (Comment t) k g e = absurd (cc)
last-some l (Instruction n t) k g e = absurd (cc)

met-some : {L : Type 0} (l : L) (c : Content) (k s g : Forest L) → met (Node l c k s) g ≡ Empty → ⊥
met-some l c k Empty g e = last-some l c k g e
met-some l c k (Node j d b s) g e = absurd (cc)

met-behind : {L : Type 0} (l : L) (c : Content) (k f g : Forest L) → (f ≡ Empty → ⊥) → met (Node l c k f) g ≡ Node l c k (met f g)
met-behind l c k Empty g some = absurd (some refl)
met-behind l c k (Node j d b s) g some = refl

texts-all : {L : Type 0} (l : L) (t : List ℕ) (k : Forest L) (j : L) (u : List ℕ) (b h : Forest L)
    → text_before l (t ++ u) k h ≡ text_before l t k (text_before j u b h)
texts-all l t k j u b Empty = refl
texts-all l t k j u b (Node i (Element n w) d r) = refl
texts-all l t k j u b (Node i (Text v) d r) = ap (λ x. Node l (Text x) k r) (append_assoc t u v)
texts-all l t k j u b (Node i (Comment v) d r) = refl
texts-all l t k j u b (Node i (Instruction n v) d r) = refl

text-all : {L : Type 0} (l : L) (t : List ℕ) (k g h : Forest L) → met (text_before l t k g) h ≡ text_before l t k (met g h)
text-all l t k Empty h = refl
text-all l t k (Node j (Text u) b Empty) h = texts-all l t k j u b h
text-all l t k (Node j (Text u) b (Node i d e s)) h = refl
text-all l t k (Node j (Element n w) b Empty) h = refl
text-all l t k (Node j (Element n w) b (Node i d e s)) h = refl
text-all l t k (Node j (Comment u) b Empty) h = refl
text-all l t k (Node j (Comment u) b (Node i d e s)) h = refl
text-all l t k (Node j (Instruction n u) b Empty) h = refl
text-all l t k (Node j (Instruction n u) b (Node i d e s)) h = refl

front-all : {L : Type 0} (l : L) (c : Content) (k g h : Forest L) → last_before l c k h ≡ Node l c k h
    → met (Node l c k g) h ≡ Node l c k (met g h)
front-all l c k Empty h e = e
front-all l c k (Node j d b s) h e = refl

last-all : {L : Type 0} (l : L) (c : Content) (k g h : Forest L) → met (last_before l c k g) h ≡ last_before l c k (met g h)
last-all l (Element n w) k g h = front-all l (Element n w) k g h refl
last-all l (Text t) k g h = text-all l t k g h
last-all l (Comment t) k g h = front-all l (Comment t) k g h refl
last-all l (Instruction n t) k g h = front-all l (Instruction n t) k g h refl

pub met-all : {L : Type 0} (f g h : Forest L) → met (met f g) h ≡ met f (met g h)
met-all Empty g h = refl
met-all (Node l c k Empty) g h = last-all l c k g h
met-all (Node l c k (Node j d b s)) g h =
    met-behind l c k (met (Node j d b s) g) h (met-some j d b s g) ∙ ap (Node l c k) (met-all (Node j d b s) g h)
